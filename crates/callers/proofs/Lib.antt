pub mod Resending
mod Instruments
