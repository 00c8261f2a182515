-- What one pass over the records gives: the walk of the whole file, and the record 7 of each function that a call can name. And how the
-- pass goes from record to record. Assumes nothing.
use Rattle.std.specs.Prelude.{◌≡◌, Bool, true, false, cond, ◌&&◌, ◌⊎◌, List, [], ◌∷◌, ◌++◌, ltb, leb, eqb, get_or, set, replicate}
use Rattle.std.proofs.Math.Path.{refl, sym}
use Rattle.std.proofs.Common.{ap, ◌∙◌, inl, inr, ⊎_elim, arith, length-append, length-set, ext_get_or, get_or-set_same, get_or-set_other, lt-ltb, le-ltb, ltb-true, ltb-false, leb-true}
use Prim.Native.Nat.{ℕ, zero, suc, ◌+◌, ◌*◌, ◌%◌, ◌<◌, ◌≤◌, ◌^◌}
use Rattle.std.proofs.Math.Numerals.{add-one}
use Rattle.std.proofs.Math.Decide.{dec_lt}
use Rattle.std.proofs.Math.ListN.{length, get_or-append, get_or-eq_default}
use Rattle.std.proofs.lemmas.List.{length-replicate, get_or-replicate, get_or_at}
use Rattle.words.specs.Bytes.{Bytes, AllBytes, list_of}
use Rattle.words.specs.ByteLaws.{length_list_of, get_d_list_of}
use Rattle.words.specs.First.{sum_below}
use Rattle.words.specs.FirstLaws.{sum_below_more}
use Rattle.words.specs.Choose.{both, not_both, cond_split}
use Rattle.rules.specs.Limits.{block_bytes, most_blocks, block_records}
use Rattle.rules.specs.File.{blocks, length_right, records, record_of, instructions_of}
use Rattle.rules.specs.Walk.{start, next, next_scan, scan, whole}
use Rattle.rules.specs.Records.{head_of}
use Rattle.rules.specs.Decode.{function_of, module_of, start_of}
use Rattle.rules.specs.Verdict.{instructions}
use Rattle.rules.specs.declared.Walk.{Walk}
use Rattle.rules.specs.declared.Phase.TheVariants.{Filler}
use Rattle.walk.specs.declared.tables.Tables.{Tables}
use Rattle.walk.specs.Scan.{callees, Room, Counts, counts_start, counts_room, counts_next, grown_next, scan_more, in_filler, in_filler_law, scan_filler}
use Rattle.walk.specs.Record.{byte_of_law}

-- the first 256 starts; 0 where there is no such function
unfoldable pub entries : List ℕ → List ℕ
entries starts = list_of (λ g. get_or starts g 0) callees

-- the starts of a file's functions, as the code holds them
unfoldable pub starts_of : Bytes → List ℕ
starts_of f = entries (whole f).starts

unfoldable pub tables_of : Bytes → Tables
tables_of f = record { walk = (whole f).walk; starts = starts_of f }

abbrev pub no_tables : Tables
no_tables = record { walk = start; starts = replicate callees 0 }

-- ---- the entries

pub length_entries : (starts : List ℕ) → length (entries starts) ≡ callees
unfolding entries
length_entries starts = length_list_of (λ g. get_or starts g 0) callees

pub entry_at : (starts : List ℕ) (g : ℕ) → g < callees → get_or (entries starts) g 0 ≡ get_or starts g 0
unfolding entries
entry_at starts g h = get_d_list_of (λ k. get_or starts k 0) callees g 0 h

pub entries_none : entries [] ≡ replicate callees 0
entries_none =
    ext_get_or 0 (entries []) (replicate callees 0) (length_entries [] ∙ sym (length-replicate {A = ℕ} callees 0))
    (λ g h. let l : g < callees = rw length_entries at h in entry_at [] g l ∙ sym (get_or-replicate callees g 0 0 l))

-- a start more is stored where there is room
pub entries_more : (starts : List ℕ) (r : ℕ) → length starts < callees → set (entries starts) (length starts) r ≡ entries (starts ++ r ∷ [])
entries_more starts r room =
    ext_get_or 0 (set (entries starts) (length starts) r) (entries (starts ++ r ∷ [])) (length-set (entries starts) (length starts) r ∙ length_entries starts ∙ sym (length_entries (starts ++ r ∷ [])))
    (λ g h. let l : g < callees = rw (length-set, length_entries) at h in at g l (dec_lt g (length starts)) (dec_lt (length starts) g) ∙ sym (entry_at (starts ++ r ∷ []) g l))
  where
    at : (g : ℕ) → g < callees → Dec (g < length starts) → Dec (length starts < g)
        → get_or (set (entries starts) (length starts) r) g 0 ≡ get_or (starts ++ r ∷ []) g 0
    at g l (yes a) b =
        get_or-set_other (entries starts) (length starts) g r 0 (λ e. omega arith) ∙ entry_at starts g l ∙ sym (get_or-append starts (r ∷ []) 0 g a)
    at g l (no a) (yes b) =
        get_or-set_other (entries starts) (length starts) g r 0 (λ e. omega arith)
        ∙ entry_at starts g l
        ∙ get_or-eq_default starts 0 {n = g} (omega arith)
        ∙ sym (get_or-eq_default (starts ++ r ∷ []) 0 {n = g} (rw length-append (omega arith)))
    at g l (no a) (no b) =
        let e : g ≡ length starts = omega arith in
        rw e (get_or-set_same (entries starts) (length starts) r 0 (rw length_entries room) ∙ sym (get_or_at starts r [] 0 (length starts) refl))

-- past the entries nothing is stored
pub entries_full : (starts : List ℕ) (r : ℕ) → callees ≤ length starts → entries starts ≡ entries (starts ++ r ∷ [])
entries_full starts r full =
    ext_get_or 0 (entries starts) (entries (starts ++ r ∷ [])) (length_entries starts ∙ sym (length_entries (starts ++ r ∷ [])))
    (λ g h.
    let l : g < callees = rw length_entries at h in
    entry_at starts g l ∙ sym (get_or-append starts (r ∷ []) 0 g (omega arith)) ∙ sym (entry_at (starts ++ r ∷ []) g l))

-- ---- as many starts as functions

module _ (f : Bytes) (all : AllBytes f) where
  pub counts : (r : ℕ) → Counts (scan f r).walk r
  unfolding scan next_scan
  counts zero = counts_start
  counts (suc r) = rw (← add-one r) (counts_next (record_of f r) (counts r) (byte_of_law f r all) refl)

  pub starts_count : (r : ℕ) → length (scan f r).starts ≡ (scan f r).walk.functions
  unfolding scan next_scan
  starts_count zero = refl
  starts_count (suc r) = go (grown_next (scan f r).walk (record_of f r) r (counts r).callee (byte_of_law f r all)).functions (starts_count r)
    where
      go : ((next (scan f r).walk (record_of f r) r).functions ≡ (scan f r).walk.functions)
          ⊎ ((next (scan f r).walk (record_of f r) r).functions ≡ (scan f r).walk.functions + 1)
          → length (scan f r).starts ≡ (scan f r).walk.functions
          → length (cond (ltb (scan f r).walk.functions (next (scan f r).walk (record_of f r) r).functions) ((scan f r).starts ++ r ∷ []) (scan f r).starts)
          ≡ (next (scan f r).walk (record_of f r) r).functions
      go (inl e) h = rw (le-ltb (scan f r).walk.functions (next (scan f r).walk (record_of f r) r).functions (omega arith)) (h ∙ sym e)
      go (inr e) h =
          rw (lt-ltb (scan f r).walk.functions (next (scan f r).walk (record_of f r) r).functions (omega arith), length-append)
          (omega arith)

-- ---- how a loop over the records goes on: what it holds before record r

pub starts_more : (f : Bytes) (r : ℕ)
    → (scan f (r + 1)).starts ≡ cond (ltb (scan f r).walk.functions (scan f (r + 1)).walk.functions) ((scan f r).starts ++ r ∷ []) (scan f r).starts
unfolding next_scan
starts_more f r = rw scan_more

module _ (f : Bytes) (all : AllBytes f) (r : ℕ) {w v : Walk} {hs : List ℕ} (hw : w ≡ (scan f r).walk) (hv : v ≡ (scan f (r + 1)).walk)
    (hh : hs ≡ entries (scan f r).starts) where
  pub step_start : ltb w.functions callees && ltb w.functions v.functions ≡ true → set hs w.functions r ≡ entries (scan f (r + 1)).starts
  step_start e =
      let p = both (ltb w.functions callees) (ltb w.functions v.functions) e in
      let n : length (scan f r).starts ≡ w.functions = starts_count f all r ∙ ap (λ (u : Walk). u.functions) (sym hw) in
      let g : ltb (scan f r).walk.functions (scan f (r + 1)).walk.functions ≡ true = rw (← hw, ← hv) p.1 in
      rw (starts_more f r, g, hh, ← n) (entries_more (scan f r).starts r (rw n (ltb-true w.functions callees p.0)))

  pub step_same : ltb w.functions callees && ltb w.functions v.functions ≡ false → hs ≡ entries (scan f (r + 1)).starts
  step_same e =
      let n : length (scan f r).starts ≡ w.functions = starts_count f all r ∙ ap (λ (u : Walk). u.functions) (sym hw) in
      hh ∙ ⊎_elim (λ a. full n (ltb-false w.functions callees a)) (λ a. same a) (not_both (ltb w.functions callees) (ltb w.functions v.functions) e)
    where
      same : ltb w.functions v.functions ≡ false → entries (scan f r).starts ≡ entries (scan f (r + 1)).starts
      same a =
          let g : ltb (scan f r).walk.functions (scan f (r + 1)).walk.functions ≡ false = rw (← hw, ← hv) a in
          rw (starts_more f r, g)

      full : length (scan f r).starts ≡ w.functions → callees ≤ w.functions → entries (scan f r).starts ≡ entries (scan f (r + 1)).starts
      full n a = rw (starts_more f r) (cond_split (λ (ss : List ℕ). entries (scan f r).starts ≡ entries ss)
          (ltb (scan f r).walk.functions (scan f (r + 1)).walk.functions) ((scan f r).starts ++ r ∷ []) (scan f r).starts
          (λ b. entries_full (scan f r).starts r (omega arith)) (λ b. refl))

-- ---- what the code holds of a whole file

pub starts_none : (f : Bytes) → replicate callees 0 ≡ entries (scan f 0).starts
unfolding scan
starts_none f = sym entries_none

pub start_at : (f : Bytes) (g : ℕ) → g < callees → get_or (starts_of f) g 0 ≡ start_of f g
unfolding starts_of start_of
start_at f g h = entry_at (whole f).starts g h

pub tables_at : (f : Bytes) {n r : ℕ} {w : Walk} {hs : List ℕ} → n ≡ records f → r ≡ n → w ≡ (scan f r).walk → hs ≡ entries (scan f r).starts
    → record { walk = w; starts = hs } ≡ tables_of f
unfolding tables_of starts_of whole
tables_at f hn hr hw hh = rw (hw, hh, hr, hn)

-- the filler holds nothing that the tables have
pub tables_filler : (f : Bytes) {n r : ℕ} {w : Walk} {hs : List ℕ} → n ≡ records f → r ≤ n → w ≡ (scan f r).walk → hs ≡ entries (scan f r).starts
    → in_filler w.phase ≡ true → record { walk = w; starts = hs } ≡ tables_of f
unfolding tables_of starts_of whole
tables_filler f {n} {r} {w} {hs} hn hr hw hh e =
    let p : (scan f r).walk.phase ≡ Filler = rw (← hw) (in_filler_law w.phase e) in
    rw (scan_filler f r p (records f) (omega arith), hw, hh)

pub tables_walk : (f : Bytes) → (tables_of f).walk ≡ (whole f).walk
unfolding tables_of
tables_walk f = refl

pub tables_starts : (f : Bytes) → (tables_of f).starts ≡ starts_of f
unfolding tables_of
tables_starts f = refl

-- ---- that no count of the walk wraps

pub records_few : (f : Bytes) → length f < 2 ^ 64 → records f < 2 ^ 63
unfolding records
records_few f h = omega arith

pub room_at : (f : Bytes) → AllBytes f → (r : ℕ) {w : Walk} → w ≡ (scan f r).walk → r < 2 ^ 63 → Room w
room_at f all r e h = rw e (counts_room (counts f all r) h)

pub callee_at : (f : Bytes) → AllBytes f → (r : ℕ) {w : Walk} → w ≡ (scan f r).walk → w.callee < callees
callee_at f all r e = rw e (counts f all r).callee

-- ---- that no place of a function wraps

append_below : (ss : List ℕ) (r m : ℕ) → ((g : ℕ) → get_or ss g 0 ≤ m) → r ≤ m → (g : ℕ) → get_or (ss ++ r ∷ []) g 0 ≤ m
append_below [] r m h l zero = l
append_below [] r m h l (suc g) = omega arith
append_below (x ∷ ss) r m h l zero = h zero
append_below (x ∷ ss) r m h l (suc g) = append_below ss r m (λ k. h (suc k)) l g

pub starts_below : (f : Bytes) (r g : ℕ) → get_or (scan f r).starts g 0 ≤ r
unfolding scan next_scan
starts_below f zero g = omega arith
starts_below f (suc r) g = by (ltb (scan f r).walk.functions (next (scan f r).walk (record_of f r) r).functions) (starts_below f r)
  where
    by : (b : Bool) → ((k : ℕ) → get_or (scan f r).starts k 0 ≤ r) → get_or (cond b ((scan f r).starts ++ r ∷ []) (scan f r).starts) g 0 ≤ suc r
    by true h = append_below (scan f r).starts r (suc r) (λ k. omega (arith, h k)) (omega arith) g
    by false h = omega (arith, h g)

pub start_below : (f : Bytes) (g : ℕ) → start_of f g ≤ records f
unfolding start_of whole
start_below f g = starts_below f (records f) g

-- "1 to 64 blocks": a framed file has few records
pub records_most : (f : Bytes) → length_right f ≡ true → records f ≤ block_records * most_blocks
unfolding records
records_most f e =
    let h = both (eqb (length f % block_bytes) 0) (leb 1 (blocks f) && leb (blocks f) most_blocks) e in
    let k = leb-true (blocks f) most_blocks (both (leb 1 (blocks f)) (leb (blocks f) most_blocks) h.1).1 in
    omega arith

pub start_small : (f : Bytes) → length_right f ≡ true → (g : ℕ) → start_of f g ≤ block_records * most_blocks
start_small f e g = let a = start_below f g in let b = records_most f e in omega arith

-- ---- the instructions of a module

-- those of the first n functions
unfoldable pub instructions_below : Bytes → ℕ → ℕ
instructions_below f n = sum_below n (λ g. instructions_of (record_of f (start_of f g)))

pub instructions_none : (f : Bytes) → 0 ≡ instructions_below f 0
unfolding instructions_below sum_below
instructions_none f = refl

pub instructions_more : (f : Bytes) (g : ℕ) → instructions_below f (g + 1) ≡ instructions_below f g + instructions_of (head_of f (whole f) g)
unfolding instructions_below start_of
instructions_more f g = sum_below_more g (λ k. instructions_of (record_of f (start_of f k)))

-- "prints terms, names, functions, instructions"
pub instructions_all : (f : Bytes) → instructions_below f (whole f).walk.functions ≡ instructions (module_of f)
unfolding instructions_below instructions module_of function_of start_of
instructions_all f = refl
