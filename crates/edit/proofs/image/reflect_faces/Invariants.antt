-- `reflect_faces` meets its contract: the places passed hold the vertices of their reflected corners, and the others what they held.
use mathlib.Core.Path.{◌≡◌}
use lib.ListN.{get_or}
use Rattle.finite.specs.Filled.{filled}
use Rattle.edit.specs.Mirror.{reflected_corner}
use Rattle.edit.proofs.image.reflect_faces.Given as goal

abbrev pub invariant-loop-c : goal.invariant-loop-c
invariant-loop-c l = l.out ≡ filled (λ d. get_or l.faces (reflected_corner d) 0) l.c l.initial.out
