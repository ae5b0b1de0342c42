pub mod BlankedBytes
