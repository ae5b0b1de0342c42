pub mod DigitTable
pub mod LinePremises
pub mod LineBuffers
