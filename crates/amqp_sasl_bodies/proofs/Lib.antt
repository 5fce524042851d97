pub mod SaslRead
pub mod SaslWritten
