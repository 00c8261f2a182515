-- "page 0 is unowned; owners are live; unowned pages have no used marks", page by page and by the bytes of the marks: owned pages are in the
-- range, where page 0 never is. Assumes nothing.
use Rattle.std.specs.Prelude.{◌≡◌, Bool, not, ◌&&◌, ◌≢◌, ℕ, ◌+◌, ◌-◌, ◌<◌, ◌≤◌, ltb, leb}
use Rattle.std.proofs.Common.{sym, ap, ◌∙◌, arith}
use Rattle.words.specs.Bytes.{Bytes, AllBytes, byte_at}
use Rattle.rules.specs.Limits.{pages, page_bytes, mark_bytes}
use Rattle.rules.specs.Decode.{module_of}
use Rattle.rules.specs.State.{low_page, end_page, InRange, view, marks_place, frame_function, frame_map, page_owner, page_mark}
use Rattle.rules.specs.Heap.{Live, dec_live}
use Rattle.state.specs.Marks.{marks_none, bytes_none}
use Rattle.stack.specs.Tells.{Tells, tells_map, tells_and, tells_lt, tells_le, tells_back}
use Rattle.stack.specs.Facts.{NotLive}
use Rattle.shape.specs.Zeros.{Zero}

-- page p, of n frames, where the range is the pages lo to hi - 1
pub record PageOk (f s : Bytes) (n lo hi p : ℕ) : Type 0 where
  pub in_range : 0 < page_owner s p → (lo ≤ p) × (p < hi)
  pub owner : 0 < page_owner s p → Live (module_of f) (frame_function s) (frame_map s) n (page_owner s p)
  pub marks : page_owner s p ≡ 0 → (j : ℕ) → j < page_bytes → page_mark s p j ≡ 0

pub record PagesOk (f s : Bytes) : Type 0 where
  pub in_range : (p : ℕ) → p < pages → 0 < (view s).owner p → InRange (view s).range p
  pub owners : (p : ℕ) → p < pages → 0 < (view s).owner p → Live (module_of f) (view s).fn (view s).map (view s).frames ((view s).owner p)
  pub marks : (p : ℕ) → p < pages → (j : ℕ) → j < page_bytes → (view s).owner p ≡ 0 → (view s).mark p j ≡ 0

pub page_unowned : {f s : Bytes} {n lo hi p a o : ℕ} {b : Bool} → p < pages → AllBytes s → o ≡ page_owner s p → o ≡ 0 → a ≡ marks_place p
    → Tells b (Zero s a (a + mark_bytes)) → Tells b (PageOk f s n lo hi p)
page_unowned {f} {s} {n} {lo} {hi} {p} {a} {o} h all eo z ea t = tells_map to back t
  where
    none : page_owner s p ≡ 0
    none = sym eo ∙ z

    to : Zero s a (a + mark_bytes) → PageOk f s n lo hi p
    to w =
        record {
          in_range = λ l. absurd (omega (arith, none));
          owner = λ l. absurd (omega (arith, none));
          marks = λ e. marks_none s p h (λ i l. (w (marks_place p + i) (omega (arith, ea))).is (omega (arith, ea)));
        }

    back : PageOk f s n lo hi p → Zero s a (a + mark_bytes)
    back w i l =
        record {
          is = λ k.
              let q : marks_place p + (i - marks_place p) ≡ i = omega (arith, ea) in
              ap (byte_at s) (sym q) ∙ bytes_none s p h all (w.marks none) (i - marks_place p) (omega (arith, ea));
        }

pub page_owned : {f s : Bytes} {n lo hi p o : ℕ} {b : Bool} → o ≡ page_owner s p → o ≢ 0 → Tells b (NotLive f s n o)
    → Tells ((leb lo p && ltb p hi) && not b) (PageOk f s n lo hi p)
page_owned {f} {s} {n} {lo} {hi} {p} {o} eo z t =
    tells_map
    (λ h. record { in_range = λ _. h.0; owner = λ _. rw eo at h.1; marks = λ e. absurd (z (eo ∙ e)) })
    (λ w. let l : 0 < page_owner s p = let d = z in omega arith in (w.in_range l, rw eo (w.owner l)))
    (tells_and (tells_and (tells_le lo p) (tells_lt p hi)) (tells_back (dec_live (module_of f) (frame_function s) (frame_map s) n o) t))

pub pages_by : {f s : Bytes} {n lo hi : ℕ} {b : Bool} → n ≡ (view s).frames → lo ≡ low_page (view s).range → hi ≡ end_page (view s).range
    → Tells b ((p : ℕ) → p < pages → PageOk f s n lo hi p) → Tells b (PagesOk f s)
unfolding view
pages_by {f} {s} {n} {lo} {hi} en el eh t =
    tells_map
    (λ h. record { in_range = λ p l. (h p l).in_range; owners = λ p l. (h p l).owner; marks = λ p l j k e. (h p l).marks e j k })
    (λ w p l. record { in_range = w.in_range p l; owner = w.owners p l; marks = λ e j k. w.marks p l j k e })
    (rw (en, el, eh) at t)
