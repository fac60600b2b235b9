pub mod Asking
pub mod Answering
pub mod Forecasts
pub mod Placing
pub mod Loads
pub mod FramedLoads
