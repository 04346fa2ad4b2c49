pub mod PieceRead
pub mod Reading
