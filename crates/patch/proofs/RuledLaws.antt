-- The rules and the weights of an accepted mesh: the counts make them, the corner points are made from them, and these are the ones of the definitions,
-- in value and in mark.
use mathlib.Core.Path.{◌≡◌, refl, ap, ap₂, ◌∙◌}
use mathlib.Core.Bool.{Bool, true, false, ◌&&◌}
use mathlib.Core.List.{List}
use Prim.Native.Nat.{ℕ, ◌+◌, ◌-◌, ◌*◌, ◌≤◌, ◌<◌}
use native.Mathlib.Nat.{lt_of_lt_of_le}
use native.Mathlib.Omega.{arith}
use lib.IntN.{ℤ, pos, nat_abs, ◌*ℤ◌}
use lib.ListN.{length, get_or}
use Rattle.integer.specs.Nearest.{nearest, whole}
use Rattle.integer.proofs.Difference.{int, nat, ◌⊛◌, prove-eq}
use Rattle.integer.proofs.NearestLaws.{nearest-scaled}
use Rattle.integer.proofs.WholeLaws.{whole_scaled}
use Rattle.finite.specs.Filled.{filled}
use Rattle.finite.proofs.FoldLaws.{bool_cases, fold-ext}
use Rattle.finite.proofs.FilledLaws.{filled_at}
use Rattle.limits.specs.Limits.{max_valence, max_coordinate}
use Rattle.corner.specs.Corner.{prev}
use Rattle.mesh.specs.HalfEdge.{twin}
use Rattle.mesh.specs.IndexedMesh.{IndexedMesh, corners, at, tag}
use Rattle.mesh.specs.Tables.{Holds, vertex_of, twin_of}
use Rattle.mesh.specs.WellFormed.{WellFormed}
use Rattle.mesh.proofs.CornerLaws.{prev-below}
use Rattle.mesh.proofs.AcceptedLaws.{accepted-corners}
use Rattle.mesh.proofs.SizeLaws.{indices-corners}
use Rattle.mask.specs.Mask.{Fraction, max_sharpness, corner_rule}
use Rattle.mask.proofs.RuleLaws.{Scaled, rule-inside, rule-boundary, rule-scaled}
use Rattle.control.specs.Control.{units, exactly}
use Rattle.patch.specs.Point.{valence_at, inside, weight, sharp, sharp_sum, ring_sum, fixed, corner_point}
use Rattle.patch.specs.Patch.{shape, view}
use Rattle.patch.specs.Lists.{shape_of, Twins, no_ends, ends_in, ring_sum_by, sharp_sum_by}
use Rattle.patch.specs.PatchTables.{Counts, rule, rule_by, tagged_shape, ends_of, Renderable, Roomy, Rendered}
use Rattle.patch.specs.PatchTables.{Allowed, CornerLists, corner_lists, ruled_point, CornerSource, CornerPoints, Valued}
use Rattle.patch.specs.declared.counts.Ends.{Ends}
use Rattle.patch.proofs.FacePointLaws.{boundary-in, sharp-in}
use Rattle.patch.proofs.TableLaws.{ring-told, sharp-told, ring-size, sharp-most, sharp-size}
use Rattle.patch.proofs.TableLaws.{accepted-whole, accepted-indices, valence-range}

-- ---- a fraction with both parts multiplied has the same value and the same mark
module _ {q q' : Fraction} (s : Scaled q q') where
  scaled-num : pos 256 *ℤ q'.num ≡ pos 256 *ℤ q.num *ℤ pos s.by
  scaled-num =
      ap (λ (z : ℤ). pos 256 *ℤ z) s.num-is
      ∙ prove-eq (nat 256 ⊛ (int q.num ⊛ nat s.by)) (nat 256 ⊛ int q.num ⊛ nat s.by) (omega arith)

  units-scaled : units q' ≡ units q
  units-scaled = ap₂ nearest scaled-num s.den-is ∙ nearest-scaled (pos 256 *ℤ q.num) q.den s.by s.divided s.above

  exactly-scaled : exactly q' ≡ exactly q
  exactly-scaled = ap₂ whole scaled-num s.den-is ∙ whole_scaled (pos 256 *ℤ q.num) q.den s.by s.divided s.above

-- ---- the three tables, as the pass fills them
held : {A : Type 0} (z : A) (f g : ℕ → A) (n : ℕ) (d table : List A) → ((i : ℕ) → i < n → f i ≡ g i) → table ≡ filled f n d → Holds z table n g
held {A} z f g n d table h e i l = ap (λ (t : List A). get_or t i z) e ∙ filled_at f n i d z l ∙ h i l

module _ {tags faces twins : List ℕ} (t : Renderable tags faces twins) where
  pub rendered-rules : (valences leaving rules₀ rules : List ℕ) → Counts (shape_of faces) valences leaving
      → rules ≡ filled (rule_by tags valences leaving) (length tags) rules₀
      → Holds 0 rules (length tags) (rule (tagged_shape tags faces))
  unfolding rule
  rendered-rules valences leaving rules₀ rules k =
      held 0 _ _ (length tags) rules₀ rules (λ p l. let b = lt_of_lt_of_le l t.few in rw (k.inside-are p b, k.valences-are p b))

  pub rendered-weights : (weights₀ weights : List ℕ) → weights ≡ filled (weight (shape_of faces)) (length faces) weights₀
      → Holds 0 weights (length faces) (weight (tagged_shape tags faces))
  unfolding weight
  rendered-weights weights₀ weights = held 0 _ _ (length faces) weights₀ weights (λ c l. refl)

  pub rendered-ends : (ends₀ ends : List Ends) → ends ≡ filled (ends_in twins) (length faces) ends₀
      → Holds no_ends ends (length faces) (ends_of (tagged_shape tags faces))
  unfolding ends_of sharp
  rendered-ends ends₀ ends =
      held no_ends _ _ (length faces) ends₀ ends
      (λ c l. rw (sharp-in t.twinned c l, boundary-in t.twinned (prev c) (prev-below (indices-corners t.indices) c l)))

-- the links, as they are filled
pub rendered-links : {M : IndexedMesh} → WellFormed M → {twins links : List ℕ} (links₀ : List ℕ) → Twins M.indices twins
    → links ≡ filled (twin_of twins) (length M.indices) links₀ → Holds 0 links (corners M) (twin (at M) (corners M))
rendered-links {M} a {twins} {links} links₀ t e =
    rw (accepted-whole a) at (held 0 (twin_of twins) (twin (vertex_of M.indices) (length M.indices)) (length M.indices) links₀ links t.are e)

-- ---- what they give
module _ {M : IndexedMesh} (a : WellFormed M) where
  -- the rule of a vertex tells which of its sums makes its corner point
  rule-allowed : (k p r : ℕ) → k < 3 → p < M.vertices → r ≡ rule (shape M) p → Allowed r ((view M k).value p) (ring_sum (view M k) p) (sharp_sum (view M k) p)
  unfolding rule
  rule-allowed k p r axis l e =
      let range = valence-range a p l in
      let ring : nat_abs (ring_sum (view M k) p) ≤ 5 * max_coordinate * max_valence = omega (arith, ring-size a k axis p, range.1) in
      let sharp : nat_abs (sharp_sum (view M k) p) ≤ 5 * max_coordinate * max_valence = omega (arith, sharp-most a k axis p, range.1) in
      let value = a.coordinates (3 * p + k) (omega arith) in
      let n : ℕ = valence_at (shape M) p in
      let rule-at : (i : Bool) → inside (shape M) p ≡ i → r ≡ corner_rule i (tag M p) n = λ i t. e ∙ ap (λ (j : Bool). corner_rule j (tag M p) n) t in
      bool_cases (inside (shape M) p)
      (λ t. let is : r ≡ max_sharpness + n = rule-at true t ∙ rule-inside (tag M p) n in
      let less : r - max_sharpness ≡ n = omega arith in
      record {
        value-small = value;
        ring-fits = ring;
        sharp-fits = sharp;
        ring-small = λ _. rw less (ring-size a k axis p);
        sharp-small = λ h. absurd (omega arith);
      })
      (λ t. let low : r ≤ max_sharpness = rw (rule-at false t) (rule-boundary (tag M p) n) in
      record {
        value-small = value;
        ring-fits = ring;
        sharp-fits = sharp;
        ring-small = λ h. absurd (omega arith);
        sharp-small = λ _. sharp-size a k axis p l t;
      })

module _ {M : IndexedMesh} (a : WellFormed M) {rules weights : List ℕ} {ends : List Ends} where
  pub rendered-mesh : Rendered (tagged_shape M.tags M.indices) (length M.tags) rules weights ends → Rendered (shape M) M.vertices rules weights ends
  rendered-mesh r = rw (accepted-whole a, a.sized.tags-are) at r

  module _ (r : Rendered (shape M) M.vertices rules weights ends) {values : List ℤ} (t : Valued M values) where
    abbrev lists : CornerLists
    lists = corner_lists M.positions M.indices values ends rules

    ring-is : (k p : ℕ) → k < 3 → ring_sum_by M.indices values k p ≡ ring_sum (view M k) p
    ring-is k p axis = ring-told M (accepted-whole a) (accepted-corners a) t k axis p

    sharp-is : (k p : ℕ) → k < 3 → sharp_sum_by M.indices values ends k p ≡ sharp_sum (view M k) p
    sharp-is k p axis = sharp-told M (accepted-whole a) (accepted-corners a) t k axis ends r.ends-are p

    pub corner-source : Roomy M.vertices (corners M) rules weights ends → CornerSource lists M.vertices
    corner-source room = record {
      few = a.sized.vertices-high;
      rules-listed = room.rules-listed;
      indices = accepted-indices a;
      ends-listed = omega (arith, accepted-whole a, room.ends-listed);
      bounded = t.bounded;
      allowed = λ k p axis l. rw (ring-is k p axis, sharp-is k p axis) (rule-allowed a k p (get_or rules p 0) axis l (r.rules-are p l));
    }

    ruled-scaled : (k p : ℕ) → k < 3 → p < M.vertices → Scaled (corner_point (view M k) p) (ruled_point lists k p)
    unfolding corner_point fixed ruled_point rule
    ruled-scaled k p axis l =
        rw (r.rules-are p l, ring-is k p axis, sharp-is k p axis)
        (rule-scaled (inside (shape M) p) (tag M p) (valence_at (shape M) p) ((view M k).value p) (ring_sum (view M k) p) (sharp_sum (view M k) p) (a.used p l))

    pub ruled-points : {points : List ℤ} {flags : List Bool} → CornerPoints (ruled_point lists) M.vertices 3 points flags
        → CornerPoints (λ k. corner_point (view M k)) M.vertices 3 points flags
    ruled-points c = record {
      points-are = λ k p b l. c.points-are k p b l ∙ units-scaled (ruled-scaled k p b l);
      flags-are = λ p l. c.flags-are p l ∙ fold-ext true ◌&&◌ 3 (λ k b. exactly-scaled (ruled-scaled k p b l));
    }
