pub mod ProtocolReading
