-- "marks beyond the last place of a page" are zero, page by page. Assumes nothing.
use Rattle.std.specs.Prelude.{◌≡◌, Bool, ◌||◌, ◌&&◌, ◌≢◌, ℕ, suc, ◌+◌, ◌-◌, ◌*◌, ◌/◌, ◌%◌, ◌<◌, ◌≤◌, eqb, leb}
use Rattle.std.proofs.Common.{sym, ap, subst, ◌∙◌, inl, inr, ⊎_elim, add-one, mul_comm, mul-le-mul, div-lt_iff_lt-mul, le-div_iff_mul-le, arith}
use Rattle.words.specs.Bytes.{Bytes, AllBytes, byte_at}
use Rattle.words.specs.Bits.{bit}
use Rattle.words.specs.BitLaws.{bit_zero, bits_same}
use Rattle.words.specs.Choose.{lt_or_le}
use Rattle.rules.specs.Limits.{pages, page_bytes, mark_bytes}
use Rattle.rules.specs.Flat.{size}
use Rattle.rules.specs.Decode.{module_of}
use Rattle.rules.specs.State.{view, marks_place, mark_place, page_owner, page_mark}
use Rattle.rules.specs.StateTest.{MarksEnd}
use Rattle.state.specs.Reads.{mark_is}
use Rattle.state.specs.Marks.{mark_byte}
use Rattle.stack.specs.Tells.{Tells, tells_map, tells_or, tells_and, tells_le, tells_eq}
use Rattle.shape.specs.Zeros.{Zero}
use Rattle.objects.specs.Homes.{region_tree}

-- a page has r places for objects of size z
pub record PlacesIn (z r : ℕ) : Type 0 where
  pub few : r ≤ page_bytes
  pub inside : (j : ℕ) → j < r → z * suc j ≤ page_bytes
  pub past : (j : ℕ) → j < page_bytes → r ≤ j → page_bytes < z * suc j

pub places_all : (z : ℕ) → z ≡ 0 → PlacesIn z page_bytes
places_all z e = record { few = omega arith; inside = λ j l. let q : 0 * suc j ≤ page_bytes = omega arith in rw e q; past = λ j h l. absurd (omega arith) }

pub places_some : (z : ℕ) → z ≢ 0 → PlacesIn z (page_bytes / z)
places_some z d =
    let h : 0 < z = omega (arith, d) in
    let few : page_bytes / z < suc page_bytes = (div-lt_iff_lt-mul h).1 (omega arith) in
    record {
      few = omega arith;
      inside = λ j l. let a : suc j * z ≤ page_bytes = (le-div_iff_mul-le h).0 l in let c = mul_comm (suc j) z in omega arith;
      past = λ j l k. let a : page_bytes < suc j * z = (div-lt_iff_lt-mul h).0 (let q : page_bytes / z < suc j = omega arith in q) in let c = mul_comm (suc j) z in omega arith;
    }

-- place j of page p, whose objects have size z
pub record EndMark (s : Bytes) (p z j : ℕ) : Type 0 where
  pub is : page_bytes < z * suc j → page_mark s p j ≡ 0

-- page p, of n frames
pub record EndsOk (f s : Bytes) (n p : ℕ) : Type 0 where
  pub is : MarksEnd (module_of f) (view s) n p ((view s).owner p)

pub record AllEnds (f s : Bytes) : Type 0 where
  pub each : (p : ℕ) → p < pages → MarksEnd (module_of f) (view s) (view s).frames p ((view s).owner p)

pub mark_by : {s : Bytes} {p z j x : ℕ} → x ≡ page_mark s p j → Tells (leb (z * (j + 1)) page_bytes || eqb x 0) (EndMark s p z j)
mark_by {s} {p} {z} {j} {x} e =
    let q : z * (j + 1) ≡ z * suc j = ap (λ (i : ℕ). z * i) (add-one j) in
    tells_map
    (λ h. record { is = λ l. ⊎_elim (λ (a : z * (j + 1) ≤ page_bytes). absurd (omega arith)) (λ a. sym e ∙ a) h })
    (λ w. ⊎_elim (λ (a : page_bytes < z * (j + 1)). inr (e ∙ w.is (omega arith))) (λ a. inl a) (lt_or_le page_bytes (z * (j + 1))))
    (tells_or (tells_le (z * (j + 1)) page_bytes) (tells_eq x 0))

-- a place that there is asks for nothing
pub mark_inside : {s : Bytes} {p z r : ℕ} → PlacesIn z r → (j : ℕ) → j < r → EndMark s p z j
mark_inside w j h = record { is = λ l. absurd (let a = w.inside j h in omega arith) }

-- eight marks that are zero are a byte that is zero
byte_of_law : (s : Bytes) (p : ℕ) → p < pages → AllBytes s → (i : ℕ) → i < mark_bytes → ((r : ℕ) → r < 8 → page_mark s p (8 * i + r) ≡ 0) → byte_at s (marks_place p + i) ≡ 0
byte_of_law s p inside all i h w =
    bits_same 8 (byte_at s (marks_place p + i)) 0 (all (marks_place p + i)) (omega arith) (λ r l. sym (mark_byte s p inside i r h l) ∙ w r l ∙ sym (bit_zero r))

-- the places before byte w of the marks one by one, the others by their bytes
pub marks_by : {s : Bytes} {p z many w a : ℕ} {x y : Bool} → p < pages → AllBytes s → PlacesIn z many → many ≤ 8 * w → w ≤ mark_bytes → a ≡ marks_place p
    → Tells x ((j : ℕ) → j < 8 * w → EndMark s p z j) → Tells y (Zero s (a + w) (a + mark_bytes)) → Tells (x && y) ((j : ℕ) → j < page_bytes → EndMark s p z j)
marks_by {s} {p} {z} {many} {w} {a} inside all q h l ea t u = tells_map to back (tells_and t u)
  where
    to : (((j : ℕ) → j < 8 * w → EndMark s p z j) × Zero s (a + w) (a + mark_bytes)) → (j : ℕ) → j < page_bytes → EndMark s p z j
    to v j k =
        ⊎_elim (v.0 j)
        (λ (c : 8 * w ≤ j). record {
          is = λ d. mark_is s {p = p} {j = j} inside k ∙ ap (λ (b : ℕ). bit b (j % 8)) ((v.1 (mark_place p j) (omega (arith, ea))).is (omega (arith, ea))) ∙ bit_zero (j % 8);
        })
        (lt_or_le j (8 * w))

    back : ((j : ℕ) → j < page_bytes → EndMark s p z j) → ((j : ℕ) → j < 8 * w → EndMark s p z j) × Zero s (a + w) (a + mark_bytes)
    back v = (
      λ j k. v j (omega arith),
      λ i k. record {
        is = λ c.
            let e : marks_place p + (i - marks_place p) ≡ i = omega (arith, ea) in
            let b : i - marks_place p < mark_bytes = omega (arith, ea) in
            ap (byte_at s) (sym e) ∙ byte_of_law s p inside all (i - marks_place p) b
            (λ r d. let g : 8 * (i - marks_place p) + r < page_bytes = omega arith in
            (v (8 * (i - marks_place p) + r) g).is (q.past (8 * (i - marks_place p) + r) g (omega (arith, ea))));
      },
    )

pub ends_none : {f s : Bytes} {n p o : ℕ} → o ≡ page_owner s p → o ≡ 0 → EndsOk f s n p
unfolding view
ends_none {f} {s} {n} {p} eo z = record { is = subst (λ (x : ℕ). MarksEnd (module_of f) (view s) n p x) (sym (sym eo ∙ z)) tt }

pub ends_some : {f s : Bytes} {n p o z : ℕ} {b : Bool} → o ≡ page_owner s p → o ≢ 0 → z ≡ size (module_of f) (region_tree f s n (o - 1))
    → Tells b ((j : ℕ) → j < page_bytes → EndMark s p z j) → Tells b (EndsOk f s n p)
unfolding view
ends_some {f} {s} {n} {p} {o} {z} eo d ez t =
    let q : suc (o - 1) ≡ page_owner s p = (let e = eo in omega (arith, d)) in
    tells_map
    (λ w. record { is = subst (λ (x : ℕ). MarksEnd (module_of f) (view s) n p x) q (λ j h l. (w j h).is (rw ez l)) })
    (λ w j h. record { is = λ l. subst (λ (x : ℕ). MarksEnd (module_of f) (view s) n p x) (sym q) w.is j h (rw ez at l) })
    t

pub all_by : {f s : Bytes} {n : ℕ} {b : Bool} → n ≡ (view s).frames → Tells b ((p : ℕ) → p < pages → EndsOk f s n p) → Tells b (AllEnds f s)
all_by {f} {s} {n} e t = tells_map (λ w. record { each = λ p h. (w p h).is }) (λ w p h. record { is = w.each p h }) (rw e at t)

-- no product of a size and a number of places is large
pub mark_few : (z j : ℕ) → z ≤ 257 → j < 256 → z * (j + 1) ≤ 257 * 256
mark_few z j h l = let q : j + 1 ≤ 256 = omega arith in mul-le-mul h q
