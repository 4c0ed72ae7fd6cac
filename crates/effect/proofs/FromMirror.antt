-- The mirror image of a mesh is of one shape with it, its faces turned the other way: it is accepted with the same counts, and has the samples
-- of the mesh with a and b exchanged and x negated, and the same marks.
--
--   alike a          the two meshes are of one shape, their faces turned the other way
--   Reflects k       the relation of coordinate k of the mesh to that of its image
use mathlib.Core.Path.{◌≡◌, refl, sym, ap, ap₂, ◌∙◌, subst}
use mathlib.Core.Bool.{true, ◌&&◌}
use Prim.Native.Nat.{ℕ, zero, suc, ◌+◌, ◌-◌, ◌*◌, ◌/◌, ◌%◌, ◌^◌, ◌≤◌, ◌<◌}
use native.Mathlib.Nat.{one-le-pow}
use native.Mathlib.Omega.{arith}
use lib.IntN.{ℤ, pos, nat_abs, ◌+ℤ◌, ◌*ℤ◌}
use Rattle.integer.specs.Nearest.{nearest, whole}
use Rattle.integer.proofs.Difference.{int, ◌⊕◌, ~, prove-eq}
use Rattle.integer.proofs.Laws.{abs_neg, *ℤ-neg_ℤ}
use Rattle.integer.proofs.NearestLaws.{nearest-odd}
use Rattle.integer.proofs.WholeLaws.{whole-odd}
use Rattle.finite.specs.Fold.{all_below}
use Rattle.finite.specs.Filled.{list_below}
use Rattle.finite.specs.Permutation.{Permutation}
use Rattle.finite.proofs.PermutationLaws.{same_numbers}
use Rattle.finite.proofs.FoldLaws.{fold-ext, fold-reindex}
use Rattle.finite.proofs.AnyAll.{all-monoid}
use Rattle.finite.proofs.FilledLaws.{length-list_below, list_below-at, agree}
use Rattle.corner.specs.Corner.{turn, next, prev}
use Rattle.mesh.specs.IndexedMesh.{IndexedMesh, corners, at, coordinate}
use Rattle.mesh.specs.WellFormed.{WellFormed}
use Rattle.sample.specs.Bernstein.{rounded}
use Rattle.sample.proofs.SampleLaws.{numerator-ext, numerator-swap, rounded-ext, rounded-swap}
use Rattle.mask.proofs.LinearLaws.{Linear}
use Rattle.control.specs.Control.{units, exactly}
use Rattle.patch.specs.Patch.{patch_point, control_value, view}
use Rattle.patch.proofs.Related.{valued, patch-related}
use Rattle.symmetry.proofs.CarriedLaws.{carried-list}
use Rattle.symmetry.proofs.Sense.{reversed}
use Rattle.symmetry.proofs.WellFormedMoves.{Alike}
use Rattle.correspondence.proofs.PointSense.{point_in}
use Rattle.correspondence.proofs.PointMoves.{patch-moves}
use Rattle.edit.specs.Mirror.{reflected_corner, reflected, mirrored}
use Rattle.surface.specs.Renumbering.{place}
use Rattle.surface.proofs.FaceSamples.{sum_from}
use Rattle.surface.proofs.MarkLaws.{points_exact, mark_from}
use Rattle.effect.proofs.SampleRelated.{Rounds, numerator-related, sample-related, control-related}

-- ---- corners
reflected-below : (f c : ℕ) → c < 4 * f → reflected_corner c < 4 * f
reflected-below f c l = omega arith

reflected-twice : (c : ℕ) → reflected_corner (reflected_corner c) ≡ c
reflected-twice c = omega arith

reflected-first : (f : ℕ) → reflected_corner (4 * f) ≡ 4 * f
reflected-first f = omega arith

-- corner r of face g
reflected-at : (g r : ℕ) → r < 4 → reflected_corner (g * 4 + r) ≡ g * 4 + (4 - r) % 4
reflected-at g r l = omega arith

turn_at : (k g r : ℕ) → r < 4 → turn k (g * 4 + r) ≡ g * 4 + (r + k) % 4
turn_at k g r l = omega arith

next-back : (r : ℕ) → r < 4 → ((4 - r) % 4 + 1) % 4 ≡ (4 - (r + 3) % 4) % 4
next-back r l = omega arith

-- the corner after the image of c is the image of the one before c
reflected-next : (c : ℕ) → next (reflected_corner c) ≡ reflected_corner (prev c)
reflected-next c =
    let g : ℕ = c / 4 in
    let r : ℕ = c % 4 in
    let l : r < 4 = omega arith in
    subst (λ (d : ℕ). next (reflected_corner d) ≡ reflected_corner (prev d)) (let e : g * 4 + r ≡ c = omega arith in e)
    (ap next (reflected-at g r l)
    ∙ turn_at 1 g ((4 - r) % 4) (omega arith)
    ∙ ap (λ (t : ℕ). g * 4 + t) (next-back r l)
    ∙ sym (ap reflected_corner (turn_at 3 g r l) ∙ reflected-at g ((r + 3) % 4) (omega arith)))

-- ---- coordinate k reflected: sums and rounding keep it
abbrev pub Reflects : ℕ → ℕ → ℤ → ℤ → Type 0
Reflects k j y z = z ≡ reflected k y

abs-reflected : (k : ℕ) (z : ℤ) → nat_abs (reflected k z) ≡ nat_abs z
abs-reflected zero z = abs_neg z
abs-reflected (suc k) z = refl

reflects-linear : (k : ℕ) → Linear (Reflects k)
reflects-linear zero = record {
  nil = refl;
  plus = λ {y = y} {z = z} e f. ap₂ ◌+ℤ◌ e f ∙ prove-eq (~ (int y) ⊕ ~ (int z)) (~ (int y ⊕ int z)) (omega arith);
  scale = λ j {z = z} e. ap (λ (t : ℤ). pos j *ℤ t) e ∙ *ℤ-neg_ℤ (pos j) z;
}
reflects-linear (suc k) = record { nil = refl; plus = λ e f. ap₂ ◌+ℤ◌ e f; scale = λ j e. ap (λ (t : ℤ). pos j *ℤ t) e }

nearest-reflected : (k : ℕ) (z : ℤ) (d : ℕ) → 0 < d → nearest (reflected k z) d ≡ reflected k (nearest z d)
nearest-reflected zero z d h = nearest-odd z d h
nearest-reflected (suc k) z d h = refl

whole-reflected : (k : ℕ) (z : ℤ) (d : ℕ) → 0 < d → whole (reflected k z) d ≡ whole z d
whole-reflected zero z d h = whole-odd z d h
whole-reflected (suc k) z d h = refl

reflects : (k : ℕ) → Rounds (Reflects k)
reflects k = record { linear = reflects-linear k; rounds = λ d {y} h e. ap (λ (t : ℤ). nearest t d) e ∙ nearest-reflected k y d h }

-- ---- the image of a mesh
-- the points of a patch with i and j exchanged
exchange : Permutation 16
unfolding list_below
exchange = record {
  to = point_in reversed;
  from = point_in reversed;
  to_below = λ m l. omega arith;
  from-below = λ m l. omega arith;
  from-to = agree (λ m. point_in reversed (point_in reversed m)) (λ m. m) 16 refl;
  to-from = agree (λ m. point_in reversed (point_in reversed m)) (λ m. m) 16 refl;
}

module _ {M : IndexedMesh} (a : WellFormed M) where
  reflected_corners : Permutation (corners M)
  reflected_corners = record {
    to = reflected_corner;
    from = reflected_corner;
    to_below = reflected-below M.faces;
    from-below = reflected-below M.faces;
    from-to = λ c l. reflected-twice c;
    to-from = λ c l. reflected-twice c;
  }

  at-reflected : (c : ℕ) → c < corners M → at (mirrored M) (reflected_corner c) ≡ at M c
  at-reflected c l = list_below-at _ (corners M) (reflected_corner c) 0 (reflected-below M.faces c l) ∙ ap (at M) (reflected-twice c)

  coordinate-reflected : (p k : ℕ) → p < M.vertices → k < 3 → coordinate (mirrored M) (3 * p + k) ≡ reflected k (coordinate M (3 * p + k))
  coordinate-reflected p k l h =
      list_below-at _ (3 * M.vertices) (3 * p + k) (pos 0) (omega arith)
      ∙ ap (λ (j : ℕ). reflected j (coordinate M (3 * p + k))) (let e : (3 * p + k) % 3 ≡ k = omega arith in e)

  pub alike : Alike reversed M (mirrored M)
  unfolding reflected_corners same_numbers
  alike = record {
    same-vertices = refl;
    same-faces = refl;
    same-positions = length-list_below _ (3 * M.vertices) ∙ sym a.sized.positions-are;
    same-indices = length-list_below _ (corners M) ∙ sym a.sized.indices-are;
    shape = record {
      corners = reflected_corners;
      vertex_map = same_numbers M.vertices;
      next-moves = λ c l. reflected-next c;
      at-moves = at-reflected;
    };
    sizes-move = λ p k l h. ap nat_abs (coordinate-reflected p k l h) ∙ abs-reflected k _;
    tags-carried = carried-list 0 (same_numbers M.vertices) M.tags a.sized.tags-are;
  }

  -- coordinate k of the vertices, reflected in place: the image has it with the faces turned the other way
  abbrev X : ℕ → ℕ → ℤ
  X k p = reflected k (coordinate M (3 * p + k))

  patch-mirrored : (k f m : ℕ) → k < 3 → f < M.faces → m < 16
      → patch_point (view (mirrored M) k) (4 * f) m ≡ patch_point (valued M (X k)) (4 * f) (point_in reversed m)
  unfolding alike reflected_corners same_numbers
  patch-mirrored k f m h l b =
      ap (λ (c : ℕ). patch_point (view (mirrored M) k) c m) (sym (reflected-first f))
      ∙ patch-moves a alike (X k) (view (mirrored M) k).value (λ p r. coordinate-reflected p k r h) (4 * f) (omega arith) m b

  -- the control values of coordinates that are reflected in place
  control-reflected : (k f m : ℕ) → f < M.faces → control_value (valued M (X k)) (4 * f) m ≡ reflected k (control_value (view M k) (4 * f) m)
  control-reflected k f m l =
      control-related (reflects k) (reflects-linear k) (λ j y z e. (reflects-linear k).scale 256 {k = j} e) a
      (view M k).value (X k) (λ p _. refl) (4 * f) m (omega arith)

  -- sample (a, b) of a face turns up at (b, a), with its coordinate k reflected
  pub sample-mirrored : (n : ℕ) → 0 < n → (f x y k : ℕ) → f < M.faces → x ≤ n → y ≤ n → k < 3
      → rounded n y x (control_value (view (mirrored M) k) (4 * f)) ≡ reflected k (rounded n x y (control_value (view M k) (4 * f)))
  sample-mirrored n some f x y k l hx hy h =
      rounded-ext n y x (λ m r. ap units (patch-mirrored k f m h l r))
      ∙ rounded-swap n x y (control_value (valued M (X k)) (4 * f))
      ∙ sample-related (reflects k) n x y some hx hy (control_value (view M k) (4 * f)) (control_value (valued M (X k)) (4 * f))
      (λ m _. control-reflected k f m l)

  -- ---- the marks
  -- nothing is left in a coordinate that is reflected where nothing was left in it
  point-reflected : (k f m : ℕ) → f < M.faces → exactly (patch_point (valued M (X k)) (4 * f) m) ≡ exactly (patch_point (view M k) (4 * f) m)
  point-reflected k f m l =
      let w = patch-related (reflects-linear k) a (view M k).value (X k) (λ p _. refl) (4 * f) m (omega arith) in
      let q = patch_point (view M k) (4 * f) m in
      ap₂ whole ((reflects-linear k).scale 256 {k = q.den} w.related) w.same ∙ whole-reflected k (pos 256 *ℤ q.num) q.den w.positive

  points-mirrored : (f : ℕ) → f < M.faces → points_exact (view (mirrored M)) (4 * f) ≡ points_exact (view M) (4 * f)
  unfolding exchange
  points-mirrored f l =
      fold-ext true ◌&&◌ 16 (λ m b. fold-ext true ◌&&◌ 3 (λ k h.
      ap exactly (patch-mirrored k f m h l b) ∙ point-reflected k f (point_in reversed m) l))
      ∙ fold-reindex all-monoid exchange (λ m. all_below (λ k. exactly (patch_point (view M k) (4 * f) m)) 3)

  sum-mirrored : (n f x y k : ℕ) → f < M.faces → x ≤ n → y ≤ n → k < 3
      → sum_from (view (mirrored M) k) n (4 * f) (place y x) ≡ reflected k (sum_from (view M k) n (4 * f) (place x y))
  sum-mirrored n f x y k l hx hy h =
      numerator-ext n y x (λ m r. ap units (patch-mirrored k f m h l r))
      ∙ numerator-swap n x y (control_value (valued M (X k)) (4 * f))
      ∙ numerator-related (reflects k) n x y hx hy (control_value (view M k) (4 * f)) (control_value (valued M (X k)) (4 * f))
      (λ m _. control-reflected k f m l)

  -- and so does its mark
  pub mark-mirrored : (n : ℕ) → 0 < n → (f x y : ℕ) → f < M.faces → x ≤ n → y ≤ n
      → mark_from (view (mirrored M)) n (4 * f) (place y x) ≡ mark_from (view M) n (4 * f) (place x y)
  mark-mirrored n some f x y l hx hy =
      ap₂ ◌&&◌
      (points-mirrored f l)
      (fold-ext true ◌&&◌ 3 (λ k h.
      ap (λ (z : ℤ). whole z (n ^ 6)) (sum-mirrored n f x y k l hx hy h)
      ∙ whole-reflected k (sum_from (view M k) n (4 * f) (place x y)) (n ^ 6) (one-le-pow 6 n some)))
