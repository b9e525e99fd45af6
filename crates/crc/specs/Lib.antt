pub mod Crc
pub mod CrcFours
pub mod Dlc
