pub mod AnyClient
pub mod AnyServer
pub mod ClientEnds
pub mod Credentials
pub mod Exchange
pub mod InitClient
pub mod InitServer
pub mod InitTexts
pub mod ScramBodies
pub mod ScramClient
pub mod ScramServer
pub mod UserInfo
pub use Rattle.amqp_sasl_bodies.specs as amqp_sasl_bodies
pub use Rattle.amqp_sasl_bodies.specs.amqp_value
