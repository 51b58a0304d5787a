mod Cases
mod Headed
