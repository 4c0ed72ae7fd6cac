-- `face_corners` meets its contract: a whole face ends at or before the end of the list.
use Rattle.corner.proofs.FaceLaws.{corners-some, corners-none}
use Rattle.corner.proofs.face_corners.Goals as goal

pub returns-then-f-faces : goal.returns-then-f-faces
returns-then-f-faces c = corners-some _ _ c.before.if-f-faces.true

pub returns : goal.returns
returns c = corners-none _ _ c.before.if-f-faces.false
