pub mod JsonObject
pub mod Xml
