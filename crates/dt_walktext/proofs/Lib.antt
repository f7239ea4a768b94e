pub mod RunRows
