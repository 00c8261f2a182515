-- How the code's readers and writers meet the definitions: a field at a place that the code computed. Assumes nothing.
use Rattle.std.specs.Prelude.{◌≡◌, [], ◌∷◌, ℕ, suc, ◌+◌, ◌-◌, ◌%◌, ◌<◌, ◌≤◌, length, replicate, set}
use Rattle.std.proofs.Common.{sym, ap, ap₂, ◌∙◌, arith}
use Rattle.std.proofs.lemmas.List.{length-replicate}
use Rattle.words.specs.Bytes.{Bytes, byte_at, little, splice, put, fill}
use Rattle.words.specs.ByteLaws.{splice_whole, splice_one, splice_cons}
use Rattle.words.specs.Bits.{bit, with_bit}
use Rattle.rules.specs.Limits.{pages, page_bytes, range_at}
use Rattle.rules.specs.State.{mark_place, page_mark, written, put_mark, put_marks, put_range}
use Rattle.rules.specs.declared.PageRange.{PageRange}
use Rattle.state.specs.Puts.{after}
use Rattle.state.specs.Reads.{mark_is}

pub put_at : (n : ℕ) (s : Bytes) (i j v : ℕ) → i ≡ j → put n s i v ≡ splice s j (little n v)
unfolding put
put_at n s i j v e = ap (λ (k : ℕ). splice s k (little n v)) e

pub fill_at : (n : ℕ) (s : Bytes) (i j : ℕ) → i ≡ j → fill n s i 0 ≡ splice s j (replicate n 0)
unfolding fill
fill_at n s i j e = ap (λ (k : ℕ). splice s k (replicate n 0)) e

-- the whole list
pub fill_whole : (n : ℕ) (s : Bytes) → n ≡ length s → fill n s 0 0 ≡ replicate (length s) 0
unfolding fill
fill_whole n s e = ap (λ (k : ℕ). splice s 0 (replicate k 0)) e ∙ splice_whole s (replicate (length s) 0) (length-replicate {A = ℕ} (length s) 0)

-- a bit of the byte c at place i
pub mark_read : (s : Bytes) (c i p j : ℕ) → c ≡ byte_at s i → i ≡ mark_place p j → p < pages → j < page_bytes → bit c (j % 8) ≡ page_mark s p j
mark_read s c i p j d e h l = ap (λ (x : ℕ). bit x (j % 8)) (d ∙ ap (λ (k : ℕ). byte_at s k) e) ∙ sym (mark_is s h l)

pub mark_written : (s : Bytes) (i p j b x : ℕ) → i ≡ mark_place p j → x ≡ with_bit (byte_at s i) (j % 8) b → put 1 s i x ≡ after (put_mark s p j b) s
mark_written s i p j b x e d =
    put_at 1 s i (mark_place p j) x e ∙ ap (λ (y : ℕ). splice s (mark_place p j) (little 1 y)) (d ∙ ap (λ (k : ℕ). with_bit (byte_at s k) (j % 8) b) e)

-- the range, byte by byte
pub range_written : (R : PageRange) (s : Bytes) → set (set s (suc range_at) R.above) range_at R.below ≡ after (put_range R) s
range_written R s = ap (λ (l : Bytes). set l range_at R.below) (sym (splice_one s (suc range_at) R.above)) ∙ sym (splice_cons s range_at R.below (R.above ∷ []))

-- ---- a run of marks: what is left to write of it

abbrev pub marks_from : Bytes → (p j c i : ℕ) → Bytes
marks_from s p j c i = written (put_marks s p (j + i) (c - i)) s

pub marks_first : (s : Bytes) (p j c : ℕ) → marks_from s p j c 0 ≡ written (put_marks s p j c) s
marks_first s p j c = ap₂ (λ (a b : ℕ). written (put_marks s p a b) s) (omega arith) (omega arith)

pub marks_next : (s t : Bytes) (p j c i : ℕ) → i < c → t ≡ after (put_mark s p (j + i) 1) s → marks_from t p j c (i + 1) ≡ marks_from s p j c i
unfolding written put_marks
marks_next s t p j c i l e =
    let a : j + (i + 1) ≡ suc (j + i) = omega arith in
    let b : suc (c - (i + 1)) ≡ c - i = omega arith in
    ap₂ (λ (x : Bytes) (y : ℕ). written (put_marks x p y (c - (i + 1))) x) e a ∙ ap (λ (x : ℕ). written (put_marks s p (j + i) x) s) b

pub marks_last : (s : Bytes) (p j c i : ℕ) → c ≤ i → marks_from s p j c i ≡ s
unfolding written put_marks
marks_last s p j c i l = let e : c - i ≡ 0 = omega arith in ap (λ (x : ℕ). written (put_marks s p (j + i) x) s) e
