-- The laws of the control points: the sums of neighbours, what the points keep, a face begun later, their size, and the list that is written.
pub mod NeighbourLaws
pub mod Related
pub mod PointLaws
pub mod TurnedLaws
pub mod WrittenLaws
pub mod MaskLaws
pub mod SumLaws
pub mod FillingLaws
pub mod TableLaws
pub mod CornerTableLaws
pub mod RuledLaws
pub mod FacePointLaws
pub mod SourceLaws
pub mod AnswerLaws
