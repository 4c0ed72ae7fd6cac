-- The control points that tables by corner tell.
pub mod Control
