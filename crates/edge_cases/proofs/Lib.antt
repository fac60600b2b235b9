pub mod EdgeCases
