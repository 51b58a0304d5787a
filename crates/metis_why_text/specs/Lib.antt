pub mod WhyFaults
pub mod WhyFlaws
pub mod WhyReading
pub mod WhyText
pub mod Terms
