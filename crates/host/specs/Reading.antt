-- The reader's answer as rules' `Part`, `object_at` case by case, as the code goes, and where that part lies in the lent state.
-- Assumes nothing.
use Rattle.std.specs.Prelude.{◌≡◌, refl, Bool, true, false, cond, ◌&&◌, ℕ, zero, suc, ◌+◌, ◌-◌, ◌*◌, ◌/◌, ◌%◌, ◌<◌, ◌≤◌, ltb, leb, length, take, drop, Option, Some, None, IfSome}
use Rattle.std.proofs.Math.Path.{sym}
use Rattle.std.proofs.Common.{ap, ◌∙◌, subst, arith, length-take, length-drop, ltb-true}
use Rattle.std.specs.Borrow.{Bor}
use Rattle.words.specs.Bytes.{Bytes}
use Rattle.words.specs.Choose.{both, cond_yes, cond_no}
use Rattle.words.specs.Decide.{does, does_true}
use Rattle.rules.specs.Limits.{page_bytes, state_bytes}
use Rattle.rules.specs.Decode.{module_of}
use Rattle.rules.specs.Module.{Module}
use Rattle.rules.specs.Types.{live}
use Rattle.rules.specs.Flat.{Layout, count, flat}
use Rattle.rules.specs.State.{all_pages, View, view, page_place}
use Rattle.rules.specs.Heap.{type_of}
use Rattle.rules.specs.StateTest.{dec_passes}
use Rattle.rules.specs.Verdict.{verdict_of, IsAccepted}
use Rattle.rules.specs.Host as rules
use Rattle.rules.specs.declared.PageRange.{PageRange}
use Rattle.rules.specs.Refusals.{Verdict}
use Rattle.rules.specs.Refusals as verdicts
use Rattle.soundness.specs.ForCode.{object_inside}
use Rattle.objects.specs.Homes.{IsPart, object_around}
use Rattle.objects.specs.declared.Area.{Area}
use Rattle.guarantees.specs.Verdicts.{on_refused, on_accepted}
use Rattle.host.specs.declared.object.Part.{Part}

-- an empty part is none
abbrev pub part_meant : Option Part → rules.Part
part_meant None = rules.empty_part
part_meant (Some p) = record { offset = p.offset; size = p.size }

-- of answers whose part, if there is one, is not empty, no two mean the same
pub part_one : (o q : Option Part) → IfSome o (λ p. 0 < p.size) → IfSome q (λ p. 0 < p.size) → part_meant o ≡ part_meant q → o ≡ q
part_one None None h k e = refl
part_one None (Some q) h k e = let z : 0 ≡ q.size = ap (λ (x : rules.Part). x.size) e in absurd (omega arith)
part_one (Some p) None h k e = let z : p.size ≡ 0 = ap (λ (x : rules.Part). x.size) e in absurd (omega arith)
part_one (Some p) (Some q) h k e = ap (λ (x : rules.Part). Some (record { offset = x.offset; size = x.size })) e

-- ---- which parts there are

-- the object of n bytes around address a
abbrev pub part_around : (n a : ℕ) → rules.Part
part_around n a = record { offset = page_place (a / page_bytes) + n * (a % page_bytes / n); size = n }

-- the reader finds nothing, or an object around the address in a state of the right length
data Finds (s : Bytes) (a : ℕ) : rules.Part → Type 0 where
  nothing : Finds s a rules.empty_part
  object : {n : ℕ} → 0 < n → length s ≡ state_bytes → Finds s a (part_around n a)

finds_in : (m : Module) (v : View) (s : Bytes) (a x : ℕ) → length s ≡ state_bytes → Finds s a (rules.object_in m v a x)
unfolding rules.object_in
finds_in m v s a zero l = nothing
finds_in m v s a (suc r) l = go (flat m (type_of m v.fn v.map v.frames r))
  where
    found : (n : ℕ) (some b : Bool) → (ltb 0 n && some) && leb (n * suc (a % page_bytes / n)) page_bytes ≡ b → Finds s a (cond b (part_around n a) rules.empty_part)
    found n some true e = object (ltb-true 0 n (both (ltb 0 n) some (both (ltb 0 n && some) (leb (n * suc (a % page_bytes / n)) page_bytes) e).0).0) l
    found n some false e = nothing

    go : (L : Layout live)
        → Finds s a (cond ((ltb 0 L.size && ltb 0 (count L)) && leb (L.size * suc (a % page_bytes / L.size)) page_bytes) (part_around L.size a) rules.empty_part)
    go L = found L.size (ltb 0 (count L)) ((ltb 0 L.size && ltb 0 (count L)) && leb (L.size * suc (a % page_bytes / L.size)) page_bytes) refl

object_around_finds : (f s : Bytes) (a : ℕ) → length s ≡ state_bytes → Finds s a (object_around f s a)
unfolding object_around
object_around_finds f s a l = finds_in (module_of f) (view s) s a ((view s).owner (a / page_bytes)) l

object_finds : (f s : Bytes) (a : ℕ) → Finds s a (rules.object_of f s a)
unfolding rules.object_at
object_finds f s a = go (verdict_of f) (does (dec_passes (module_of f) s) && rules.ranged all_pages s) refl
  where
    go : (v : Verdict) (b : Bool) → does (dec_passes (module_of f) s) && rules.ranged all_pages s ≡ b
        → Finds s a (rules.on_verdict (λ n p. rules.empty_part) v (cond b (rules.object_in (module_of f) (view s) a ((view s).owner (a / page_bytes))) rules.empty_part))
    go (verdicts.Accepted t n g i) true e = finds_in (module_of f) (view s) s a ((view s).owner (a / page_bytes)) (does_true (dec_passes (module_of f) s) (both (does (dec_passes (module_of f) s)) (rules.ranged all_pages s) e).0).size
    go (verdicts.Accepted t n g i) false e = nothing
    go (verdicts.Refused n p) b e = nothing

finds_empty : {s : Bytes} {a : ℕ} {p : rules.Part} → Finds s a p → p.size ≡ 0 → p.offset ≡ 0
finds_empty nothing z = refl
finds_empty (object h l) z = absurd (omega arith)

finds_none : {s : Bytes} {a : ℕ} {p : rules.Part} → Finds s a p → p.size ≡ 0 → rules.empty_part ≡ p
finds_none nothing z = refl
finds_none (object h l) z = absurd (omega arith)

finds_fits : {s : Bytes} {a : ℕ} {p : rules.Part} → Finds s a p → (0 < p.size → p.offset + p.size ≤ state_bytes) → (p.offset + p.size ≤ length s) × (p.offset + p.size ≤ state_bytes)
finds_fits nothing i = (omega arith, omega arith)
finds_fits (object h l) i = let j = i h in (omega arith, j)

-- its numbers follow from its size
finds_numbers : {s : Bytes} {a : ℕ} {p : rules.Part} → Finds s a p → rules.part_numbers (part_around p.size a) ≡ rules.part_numbers p
unfolding rules.part_numbers
finds_numbers nothing = refl
finds_numbers (object h l) = refl

-- ---- case by case

module _ (R : PageRange) (f s : Bytes) (a : ℕ) where
  pub object_refused : {v : Verdict} {n p : ℕ} → v ≡ verdict_of f → v ≡ verdicts.Refused n p → rules.empty_part ≡ rules.object_at R f s a
  unfolding rules.object_at
  object_refused e d = on_refused (λ n p. rules.empty_part) f _ e d

  module _ (acc : IsAccepted (verdict_of f)) {b : Bool} (e : b ≡ does (dec_passes (module_of f) s) && rules.ranged R s) where
    pub object_failed : b ≡ false → rules.empty_part ≡ rules.object_at R f s a
    unfolding rules.object_at
    object_failed d = sym (on_accepted (λ n p. rules.empty_part) f _ acc ∙ cond_no _ _ (sym e ∙ d))

    object_passed : b ≡ true → rules.object_at R f s a ≡ object_around f s a
    unfolding rules.object_at object_around
    object_passed d = on_accepted (λ n p. rules.empty_part) f _ acc ∙ cond_yes _ _ (sym e ∙ d)

    pub object_read : b ≡ true → {r : Area} → IsPart r (object_around f s a) → part_meant (Some (record { offset = r.offset; size = r.size })) ≡ rules.object_at R f s a
    object_read d h = (λ i. record { offset = h.offset i; size = h.size i }) ∙ sym (object_passed d)

    -- a part of size 0 is the empty one
    pub object_no : b ≡ true → {r : Area} → IsPart r (object_around f s a) → r.size ≡ 0 → rules.empty_part ≡ rules.object_at R f s a
    object_no d {r} h z =
        let l = does_true (dec_passes (module_of f) s) (both (does (dec_passes (module_of f) s)) (rules.ranged R s) (sym e ∙ d)).0 in
        finds_none (object_around_finds f s a l.size) (sym h.size ∙ z) ∙ sym (object_passed d)

-- ---- the part itself

-- its bytes
abbrev pub bytes_of : rules.Part → Bytes → Bytes
bytes_of p s = take p.size (drop p.offset s)

-- r is part p of the bytes that s refers to, in place: it starts at p's offset there, and has p's bytes
pub record IsPartOf (r s : Bor Bytes) (p : rules.Part) : Type 0 where
  pub place : r.ref_ptr ≡ (s.ref_ptr.0, s.ref_ptr.1 + p.offset)
  pub bytes : r.now ≡ bytes_of p s.now

-- it lies in the lent state, so that its bytes are as many as its size says
object_fits : (f s : Bytes) (a : ℕ) → ((rules.object_of f s a).offset + (rules.object_of f s a).size ≤ length s) × ((rules.object_of f s a).offset + (rules.object_of f s a).size ≤ state_bytes)
object_fits f s a = finds_fits (object_finds f s a) (λ h. (object_inside all_pages f s a h).end)

object_bytes : (f s : Bytes) (a : ℕ) → length (bytes_of (rules.object_of f s a) s) ≡ (rules.object_of f s a).size
object_bytes f s a = simp (length-take, length-drop) (omega (arith, object_fits f s a))

-- and its numbers follow from how many they are
pub object_numbers : (f : Bytes) {r s : Bor Bytes} (a : ℕ) → IsPartOf r s (rules.object_of f s.now a)
    → rules.part_numbers (part_around (length r.now) a) ≡ rules.part_numbers (rules.object_of f s.now a)
object_numbers f {r} {s} a h =
    ap (λ (n : ℕ). rules.part_numbers (part_around n a)) (ap length h.bytes ∙ object_bytes f s.now a) ∙ finds_numbers (object_finds f s.now a)

-- ---- as the code goes

pub part_fits : (f s : Bytes) (a : ℕ) {p : Part} → part_meant (Some p) ≡ rules.object_of f s a → (p.offset + p.size ≤ length s) × (p.offset + p.size ≤ state_bytes)
part_fits f s a e = subst (λ (x : rules.Part). (x.offset + x.size ≤ length s) × (x.offset + x.size ≤ state_bytes)) (sym e) (object_fits f s a)

-- an empty part starts where the state does
pub part_starts : (f s : Bytes) (a : ℕ) {p : Part} → part_meant (Some p) ≡ rules.object_of f s a → p.size ≡ 0 → p.offset ≡ 0
part_starts f s a e = subst (λ (x : rules.Part). x.size ≡ 0 → x.offset ≡ 0) (sym e) (finds_empty (object_finds f s a))

-- the bytes from i up to j of the state are a part that starts at i and has so many
pub part_lies : (f : Bytes) {r s : Bor Bytes} (a : ℕ) (o : Option Part) (i j : ℕ) → part_meant o ≡ rules.object_of f s.now a
    → r.ref_ptr ≡ (s.ref_ptr.0, i + s.ref_ptr.1) → r.now ≡ take (j - i) (drop i s.now) → i ≡ (part_meant o).offset → j ≡ (part_meant o).offset + (part_meant o).size
    → IsPartOf r s (rules.object_of f s.now a)
part_lies f {r} {s} a o i j e q h start end =
    let p = part_meant o in
    let l : i + s.ref_ptr.1 ≡ s.ref_ptr.1 + p.offset = omega arith in
    let n : j - i ≡ p.size = omega arith in
    subst (λ (x : rules.Part). IsPartOf r s x) e
    (record { place = q ∙ ap (λ (x : ℕ). (s.ref_ptr.0, x)) l; bytes = h ∙ (λ k. take (n k) (drop (start k) s.now)) })
