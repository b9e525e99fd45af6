pub mod Read
pub mod Ack
