pub mod Examples
pub mod Certificates
