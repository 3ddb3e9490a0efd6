pub mod CellsWritten
