-- A marked sample is the exact surface's own: neither its control points nor the sample were rounded.
use mathlib.Core.Path.{◌≡◌, sym, ap, ◌∙◌}
use mathlib.Core.Bool.{true}
use mathlib.Core.List.{List}
use Prim.Native.Nat.{ℕ, ◌*◌, ◌^◌, ◌<◌}
use lib.IntN.{ℤ, pos, ◌*ℤ◌}
use Rattle.integer.proofs.WholeLaws.{whole-product}
use Rattle.finite.proofs.AnyAll.{all_true}
use Rattle.mesh.specs.IndexedMesh.{IndexedMesh}
use Rattle.sample.specs.Bernstein.{control_at, coordinate_at}
use Rattle.sample.specs.Marked.{sample_exact}
use Rattle.sample.proofs.ExactLaws.{exact-sample, exact-byte, exact-division}
use Rattle.control.specs.Control.{exactly}
use Rattle.patch.specs.Patch.{patches_after, point_exact, marks_after}
use Rattle.patch.proofs.WrittenLaws.{written_at, mark-at, indicator-set}
use Rattle.surface.specs.Claim.{unrounded, Multiples, exact_sum}
use Rattle.sample.specs.declared.model.Place.{Place as SamplePlace}

module _ (M : IndexedMesh) (d : List ℤ) (x : List ℕ) (n : ℕ) (q : SamplePlace) (face : q.face < M.faces)
    (set : sample_exact (patches_after M d) (marks_after M x) q.face n q.a q.b ≡ true) where
  -- nothing was left in coordinate k of any of the sixteen points
  left-nothing : (m k : ℕ) → m < 16 → k < 3 → exactly (unrounded M k q.face m) ≡ true
  unfolding point_exact
  left-nothing m k l h =
      let byte = exact-byte (patches_after M d) (marks_after M x) q.face n q.a q.b set m l in
      all_true _ 3 (indicator-set (point_exact M q.face m) (sym (mark-at M x q.face m face l) ∙ byte)) k h

  -- so each control value is the fraction itself
  as_written : (m k : ℕ) → m < 16 → k < 3
      → pos 256 *ℤ (unrounded M k q.face m).num ≡ control_at (patches_after M d) q.face k m *ℤ pos (unrounded M k q.face m).den
  as_written m k l h =
      whole-product (pos 256 *ℤ (unrounded M k q.face m).num) (unrounded M k q.face m).den (left-nothing m k l h)
      ∙ ap (λ (z : ℤ). z *ℤ pos (unrounded M k q.face m).den) (sym (written_at M d q.face m k face l h))

  pub exact-on : (k L : ℕ) (y : ℕ → ℕ) → k < 3 → Multiples M k q.face L y
      → coordinate_at (patches_after M d) q.face n q.a q.b k *ℤ pos (n ^ 6 * L) ≡ exact_sum M k n q y
  exact-on k L y h common =
      exact-sample n q.a q.b (λ m. pos 256 *ℤ (unrounded M k q.face m).num) (λ m. (unrounded M k q.face m).den) y L
      (control_at (patches_after M d) q.face k) (coordinate_at (patches_after M d) q.face n q.a q.b k) common
      (λ m l. as_written m k l h)
      (exact-division (patches_after M d) (marks_after M x) q.face n q.a q.b set k h)
