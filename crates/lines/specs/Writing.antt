-- Writing a line piece by piece: digits, texts one behind the other, and how long they are. Assumes nothing.
use Rattle.std.specs.Prelude.{◌≡◌, refl, Bool, true, false, cond, [], ◌∷◌, ◌++◌, ℕ, zero, suc, ◌+◌, ◌*◌, ◌/◌, ◌%◌, ◌<◌, ◌≤◌, ltb, length, set, take, drop, get_or}
use Rattle.std.proofs.Common.{sym, ap, ◌∙◌, append_assoc, not-suc-le-zero, arith, length-append, ltb-false, lt-ltb, le-ltb, add-one, take-suc}
use Rattle.std.proofs.Math.Seq.{take-length}
use Rattle.words.specs.Bytes.{Bytes, splice}
use Rattle.words.specs.ByteLaws.{length_splice, splice_one, splice_append_at, splice_none}
use Rattle.lines.specs.Lines.{digit, space, line_end, digits_with, decimal, line_of}

-- ---- digits

-- as many as a number has, whatever the bound
digits_same : (j k n : ℕ) → n < j → n < k → digits_with j n ≡ digits_with k n
unfolding digits_with
digits_same zero k n h l = absurd (not-suc-le-zero h)
digits_same (suc j) zero n h l = absurd (not-suc-le-zero l)
digits_same (suc j) (suc k) n h l = go (ltb n 10) refl (digits_same j k (n / 10))
  where
    go : (b : Bool) → ltb n 10 ≡ b → (n / 10 < j → n / 10 < k → digits_with j (n / 10) ≡ digits_with k (n / 10))
        → cond b (digit n ∷ []) (digits_with j (n / 10) ++ digit (n % 10) ∷ []) ≡ cond b (digit n ∷ []) (digits_with k (n / 10) ++ digit (n % 10) ∷ [])
    go true e ih = refl
    go false e ih = let m = ltb-false n 10 e in ap (λ (l : Bytes). l ++ digit (n % 10) ∷ []) (ih (omega arith) (omega arith))

pub decimal_one : (n : ℕ) → n < 10 → decimal n ≡ digit n ∷ []
unfolding decimal digits_with
decimal_one n h = rw (lt-ltb n 10 h)

pub decimal_more : (n : ℕ) → 10 ≤ n → decimal n ≡ decimal (n / 10) ++ digit (n % 10) ∷ []
unfolding decimal digits_with
decimal_more n h = rw (le-ltb n 10 h) (ap (λ (l : Bytes). l ++ digit (n % 10) ∷ []) (digits_same n (suc (n / 10)) (n / 10) (omega arith) (omega arith)))

-- 10, 100, ..
unfoldable tens : ℕ → ℕ
tens zero = 10
tens (suc k) = 10 * tens k

digits_short : (j k n : ℕ) → n < tens k → length (digits_with j n) ≤ suc k
unfolding digits_with tens
digits_short zero k n h = omega arith
digits_short (suc j) k n h = go k (ltb n 10) refl h (λ i l. digits_short j i (n / 10) l)
  where
    go : (k : ℕ) (b : Bool) → ltb n 10 ≡ b → n < tens k → ((i : ℕ) → n / 10 < tens i → length (digits_with j (n / 10)) ≤ suc i)
        → length (cond b (digit n ∷ []) (digits_with j (n / 10) ++ digit (n % 10) ∷ [])) ≤ suc k
    go k true e l ih = omega arith
    go zero false e l ih = let m = ltb-false n 10 e in absurd (omega arith)
    go (suc k) false e l ih = rw length-append (let m = ih k (omega arith) in omega arith)

-- a number of 64 bits has at most twenty
abbrev pub most_digits : ℕ
most_digits = 20

pub decimal_short : (n : ℕ) → n < 18446744073709551616 → length (decimal n) ≤ most_digits
unfolding decimal tens
decimal_short n h = digits_short (suc n) 19 n (omega arith)

-- ---- pieces

-- two numbers, each behind a space
abbrev pub pair_of : ℕ → ℕ → Bytes
pair_of x y = (space ∷ decimal x) ++ space ∷ decimal y

-- a word of eight, four numbers and the end
abbrev pub most_line : ℕ
most_line = 93

-- the text stands in t from i on, up to j; all else is as in s
pub record Puts (s t : Bytes) (i j : ℕ) (text : Bytes) : Type 0 where
  pub end : j ≡ i + length text
  pub is : t ≡ splice s i text

module _ {s t : Bytes} {i j : ℕ} {text : Bytes} (p : Puts s t i j text) where
  pub puts_length : length t ≡ length s
  puts_length = ap length p.is ∙ length_splice s i text

  -- one text behind the other
  pub puts_then : {u : Bytes} {k : ℕ} {more : Bytes} → Puts t u j k more → Puts s u i k (text ++ more)
  puts_then {u} {k} {more} q = record {
    end = q.end ∙ rw (p.end, length-append) (omega arith);
    is = q.is ∙ ap (λ (y : Bytes). splice y j more) p.is ∙ sym (splice_append_at s i text more j p.end);
  }

  pub puts_byte : (v : ℕ) → Puts s (set t j v) i (j + 1) (text ++ v ∷ [])
  puts_byte v = puts_then (record { end = refl; is = sym (splice_one t j v) })

pub puts_one : (s : Bytes) (i v : ℕ) → Puts s (set s i v) i (i + 1) (v ∷ [])
puts_one s i v = record { end = refl; is = sym (splice_one s i v) }

-- a line, its numbers two by two
pub line_two : (word : Bytes) (x y : ℕ) → line_of word (x ∷ y ∷ []) ≡ (word ++ pair_of x y) ++ line_end ∷ []
unfolding line_of
line_two word x y = ap (λ (l : Bytes). l ++ line_end ∷ []) (append_assoc word (space ∷ decimal x) (space ∷ decimal y))

pub line_four : (word : Bytes) (x y z u : ℕ) → line_of word (x ∷ y ∷ z ∷ u ∷ []) ≡ ((word ++ pair_of x y) ++ pair_of z u) ++ line_end ∷ []
unfolding line_of
line_four word x y z u =
    ap (λ (l : Bytes). l ++ line_end ∷ []) (append_assoc ((word ++ space ∷ decimal x) ++ space ∷ decimal y) (space ∷ decimal z) (space ∷ decimal u)
    ∙ ap (λ (l : Bytes). l ++ pair_of z u) (append_assoc word (space ∷ decimal x) (space ∷ decimal y)))

-- ---- the digits of a number, one by one

pub length_one : (n : ℕ) → n < 10 → length (decimal n) ≡ 1
length_one n h = rw (decimal_one n h)

pub length_more : (n : ℕ) → 10 ≤ n → length (decimal n) ≡ length (decimal (n / 10)) + 1
length_more n h = ap length (decimal_more n h) ∙ length-append (decimal (n / 10)) (digit (n % 10) ∷ [])

pub digits_one : (s : Bytes) (i n v : ℕ) → n < 10 → v ≡ digit n → Puts s (set s i v) i (i + 1) (decimal n)
digits_one s i n v h e = rw (decimal_one n h, e) (puts_one s i (digit n))

pub digits_more : {s t : Bytes} {i j : ℕ} (n v : ℕ) → 10 ≤ n → Puts s t i j (decimal (n / 10)) → v ≡ digit (n % 10) → Puts s (set t j v) i (j + 1) (decimal n)
digits_more n v h p e = rw (decimal_more n h, e) (puts_byte p (digit (n % 10)))

-- ---- the bytes of a text, one by one

pub text_none : (s text : Bytes) (i : ℕ) → Puts s s i (i + 0) (take 0 text)
text_none s text i = record { end = refl; is = sym (splice_none s i) }

pub text_more : {s t : Bytes} {i k : ℕ} (text : Bytes) → k < length text → Puts s t i (i + k) (take k text) → Puts s (set t (i + k) (get_or text k 0)) i (i + (k + 1)) (take (k + 1) text)
text_more {s} {t} {i} {k} text h p =
    let q = puts_byte p (get_or text k 0) in
    let e : take (k + 1) text ≡ take k text ++ get_or text k 0 ∷ [] = ap (λ (n : ℕ). take n text) (add-one k) ∙ take-suc text k 0 h in
    record { end = (let z : i + (k + 1) ≡ i + k + 1 = omega arith in z) ∙ q.end ∙ ap (λ (l : Bytes). i + length l) (sym e); is = q.is ∙ ap (splice s i) (sym e) }

pub text_all : {s t : Bytes} {i j k : ℕ} (text : Bytes) → k ≡ length text → j ≡ i + k → Puts s t i (i + k) (take k text) → Puts s t i j text
text_all {s} {t} {i} {j} {k} text e d p = record { end = d ∙ ap (λ (n : ℕ). i + n) e; is = p.is ∙ ap (splice s i) (ap (λ (n : ℕ). take n text) e ∙ take-length text) }

-- ---- a text in the place of as many bytes

text_first : (s text : Bytes) → length text ≤ length s → text ++ drop (length text) s ≡ splice s 0 text
unfolding splice
text_first [] [] h = refl
text_first (x ∷ s) [] h = refl
text_first [] (y ∷ text) h = absurd (omega arith)
text_first (x ∷ s) (y ∷ text) h = ap (λ (l : Bytes). y ∷ l) (text_first s text (omega arith))

text_in : (i : ℕ) (s text : Bytes) → i + length text ≤ length s → take i s ++ (text ++ drop (length text) (drop i s)) ≡ splice s i text
unfolding splice
text_in zero s text h = text_first s text (omega arith)
text_in (suc i) [] text h = absurd (omega arith)
text_in (suc i) (x ∷ s) text h = ap (λ (l : Bytes). x ∷ l) (text_in i s text (omega arith))

pub text_put : (s text : Bytes) {put : Bytes} (i k : ℕ) → k ≡ length text → put ≡ text → i + length text ≤ length s
    → Puts s (take i s ++ (put ++ drop k (drop i s))) i (i + length text) text
text_put s text i k e d h = record { end = refl; is = rw (e, d) (text_in i s text h) }

-- ---- a number behind a space, and whole lines

pub number_puts : (s : Bytes) {t : Bytes} {i j : ℕ} (n : ℕ) → Puts (set s i space) t (i + 1) j (decimal n) → Puts s t i j (space ∷ decimal n)
number_puts s {t} {i} n p = puts_then (puts_one s i space) p

pub line_one_puts : {s t u : Bytes} {i j k : ℕ} {word : Bytes} (x : ℕ) → Puts s t i j word → Puts t u j k (space ∷ decimal x) → Puts s (set u k line_end) i (k + 1) (line_of word (x ∷ []))
unfolding line_of
line_one_puts x p q = puts_byte (puts_then p q) line_end

pub line_two_puts : {s t u : Bytes} {i j k : ℕ} {word : Bytes} (x y : ℕ) → Puts s t i j word → Puts t u j k (pair_of x y) → Puts s (set u k line_end) i (k + 1) (line_of word (x ∷ y ∷ []))
line_two_puts {word = word} x y p q = rw (line_two word x y) (puts_byte (puts_then p q) line_end)

pub line_four_puts : {s t u v : Bytes} {i j k l : ℕ} {word : Bytes} (x y z w : ℕ) → Puts s t i j word → Puts t u j k (pair_of x y) → Puts u v k l (pair_of z w)
    → Puts s (set v l line_end) i (l + 1) (line_of word (x ∷ y ∷ z ∷ w ∷ []))
line_four_puts {word = word} x y z w p q r = rw (line_four word x y z w) (puts_byte (puts_then (puts_then p q) r) line_end)
