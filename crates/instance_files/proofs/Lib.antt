pub mod Cutting
pub mod KeptFields
pub mod KeptReading
pub mod Ahead
pub mod Tables
pub mod SoundValues
pub mod SoundRows
pub mod SoundFiles
