pub mod Faults
pub mod MemoryShelf
pub mod MemorySink
pub mod Reading
pub mod Shelves
pub mod Sinks
pub mod StreamSink
