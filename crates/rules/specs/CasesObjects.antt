-- Document 02, P1, as it is claimed of a step: which addresses lie in which place, what an effect clears, what hands a place out, and
-- steps that the claim excludes, those outside a machine's own pages among them, by computation. Assumes nothing.
use Rattle.std.specs.Prelude.{◌≡◌, refl, Bool, true, false, [], ◌∷◌, ℕ, suc, ◌+◌, ◌*◌}
use Rattle.std.proofs.Common.{inl, inr, arith}
use Rattle.std.proofs.Math.Decide.{ℕ_discrete, dec_lt, dec_le}
use Rattle.words.specs.Bytes.{Bytes, number, little, splice, list_from}
use Rattle.words.specs.Bits.{bit, with_bit}
use Rattle.words.specs.Decide.{does, does_true, map_dec, dec_both}
use Rattle.rules.specs.Limits.{pages, page_bytes}
use Rattle.rules.specs.Types.{sub}
use Rattle.rules.specs.Module.{Module}
use Rattle.words.specs.First.{first_from, first}
use Rattle.rules.specs.Flat.{beside, copies_of, copies, sub_layout, flat_with, fields_from, fields_with, layouts, flat}
use Rattle.rules.specs.State.{all_pages, View, view, put_range, put_owner, put_mark, put_marks, written, frame_function, frame_instruction, frame_register, frame_map, page_owner, page_mark, memory_byte, words_of, frame_of}
use Rattle.rules.specs.Heap.{dec_local, dec_live, look, type_of}
use Rattle.rules.specs.Host.{first_register, first_at}
use Rattle.rules.specs.Step.{Effect, fetch, save, take_places, grant_page, free_place, go_to, is_in, lowest, lowest_numbers}
use Rattle.rules.specs.Writes.{state_writes, apply_state}
use Rattle.rules.specs.Footprint.{span, no_bytes, footprint}
use Rattle.rules.specs.Run.{Step}
use Rattle.rules.specs.SafeStep.{InObject, InPlace, place_bytes, HandsOut, place, page, NewZero, FreeKept, UsedKept, Taken, NewTaken, UsedStays, InOwnPages}
use Rattle.rules.specs.CaseStates.{cells, blobs, blob_state, all_but}
use Rattle.rules.specs.CasesMachine.{nines, nines_step}

-- ---- places

unfoldable pub dec_in_object : (i p j s : ℕ) → Dec (InObject i p j s)
dec_in_object i p j s = map_dec (λ h. record { low = h.0; high = h.1.0; whole = h.1.1 }) (λ h. (h.low, (h.high, h.whole)))
    (dec_both (dec_le (page_bytes * p + s * j) i) (dec_both (dec_lt i (page_bytes * p + s * suc j)) (dec_le (s * suc j) page_bytes)))

unfoldable pub dec_in_place : (m : Module) (v : View) (p j i : ℕ) → Dec (InPlace m v p j i)
dec_in_place m v p j i = map_dec (λ h. record { page = h.0; inside = h.1 }) (λ h. (h.page, h.inside))
    (dec_both (dec_lt p pages) (dec_in_object i p j (place_bytes m v (v.owner p))))

-- of `cells` in state s
unfoldable pub in_place_of : Bytes → (p j i : ℕ) → Bool
in_place_of s p j i = does (dec_in_place (cells []) (view s) p j i)

-- in the state of nines page 1 has objects of 5 bytes, all free; page 2 has no owner
abbrev pub in_place : (p j i : ℕ) → Bool
in_place = in_place_of nines

pub record Places : Type 0 where
  -- place 5 of page 1 has the addresses 281 to 285
  pub first : in_place 1 5 281 ≡ true
  pub last : in_place 1 5 285 ≡ true
  pub before : in_place 1 5 280 ≡ false
  pub behind : in_place 1 5 286 ≡ false
  -- a place is whole in its page: 51 to a page, and one byte is left
  pub last_place : in_place 1 50 510 ≡ true
  pub tail : in_place 1 51 511 ≡ false
  -- a page without owner is one place
  pub unowned : in_place 2 0 767 ≡ true
  pub unowned_second : in_place 2 1 768 ≡ false
  -- each byte of an untyped page is one
  pub untyped : does (dec_in_place (blobs []) (blob_state []) 1 5 261) ≡ true
  pub untyped_behind : does (dec_in_place (blobs []) (blob_state []) 1 5 262) ≡ false
  -- there are 64 pages
  pub last_page : in_place 63 0 16383 ≡ true
  pub past_pages : in_place 64 0 16384 ≡ false

pub places : Places
unfolding in_place_of dec_in_place dec_in_object bit with_bit number little splice list_from map_dec dec_both dec_local dec_live look type_of first_from first beside copies_of copies sub_layout flat_with fields_from fields_with layouts flat frame_function frame_instruction frame_register frame_map page_owner page_mark memory_byte view written words_of frame_of first_register first_at nines lowest_numbers lowest is_in sub dec_lt dec_le ℕ_discrete
places = record {
  first = refl;
  last = refl;
  before = refl;
  behind = refl;
  last_place = refl;
  tail = refl;
  unowned = refl;
  unowned_second = refl;
  untyped = refl;
  untyped_behind = refl;
  last_page = refl;
  past_pages = refl;
}

-- ---- what an effect clears and grants

pub record Footprints : Type 0 where
  pub taken : (footprint (take_places 1 5 1 5 0)).clears ≡ span 281 5
  pub three_taken : (footprint (take_places 1 5 3 1 0)).clears ≡ span 261 3
  pub granted : (footprint (grant_page 2 0 1 0)).clears ≡ span 512 256
  pub freed : (footprint (free_place 1 5)).clears ≡ no_bytes
  pub grants : ((footprint (grant_page 2 0 1 0)).grants ≡ 1) × ((footprint (take_places 1 5 1 5 0)).grants ≡ 0)

pub footprints : Footprints
footprints = record {
  taken = refl;
  three_taken = refl;
  granted = refl;
  freed = refl;
  grants = (refl, refl);
}

-- ---- what hands a place out

pub record Handing : Type 0 where
  pub very_place : HandsOut (take_places 1 5 1 5 0) 1 5
  pub last_of_three : HandsOut (take_places 1 5 3 1 0) 1 7
  pub granted : HandsOut (grant_page 2 0 1 0) 2 0
  -- not its neighbour, not the same place of another page, not another page
  pub neighbour : ¬ HandsOut (take_places 1 5 1 5 0) 1 6
  pub before_three : ¬ HandsOut (take_places 1 5 3 1 0) 1 4
  pub behind_three : ¬ HandsOut (take_places 1 5 3 1 0) 1 8
  pub other_page : ¬ HandsOut (take_places 1 5 1 5 0) 2 5
  pub other_granted : ¬ HandsOut (grant_page 2 0 1 0) 1 0
  -- not a store, not a free
  pub stored : ¬ HandsOut (save 5 281 1 8) 1 5
  pub freed : ¬ HandsOut (free_place 1 5) 1 5

pub handing : Handing
handing = record {
  very_place = place 5 1 5 0 refl (omega arith) (omega arith);
  last_of_three = place 5 3 1 0 refl (omega arith) (omega arith);
  granted = page 0 1 0 refl;
  neighbour = λ h. elim h [
    | place q c n a e low high ↦ let x : ◌≡◌ {A = ℕ} 5 q = cc in let y : ◌≡◌ {A = ℕ} 1 c = cc in absurd (omega arith)
    | page r c a e ↦ let z : ◌≡◌ {A = ℕ} 0 1 = cc in absurd (omega arith)
  ];
  before_three = λ h. elim h [
    | place q c n a e low high ↦ let x : ◌≡◌ {A = ℕ} 5 q = cc in absurd (omega arith)
    | page r c a e ↦ let z : ◌≡◌ {A = ℕ} 0 1 = cc in absurd (omega arith)
  ];
  behind_three = λ h. elim h [
    | place q c n a e low high ↦ let x : ◌≡◌ {A = ℕ} 5 q = cc in let y : ◌≡◌ {A = ℕ} 3 c = cc in absurd (omega arith)
    | page r c a e ↦ let z : ◌≡◌ {A = ℕ} 0 1 = cc in absurd (omega arith)
  ];
  other_page = λ h. elim h [
    | place q c n a e low high ↦ let z : ◌≡◌ {A = ℕ} 1 2 = cc in absurd (omega arith)
    | page r c a e ↦ let z : ◌≡◌ {A = ℕ} 0 1 = cc in absurd (omega arith)
  ];
  other_granted = λ h. elim h [
    | place q c n a e low high ↦ let z : ◌≡◌ {A = ℕ} 0 1 = cc in absurd (omega arith)
    | page r c a e ↦ let z : ◌≡◌ {A = ℕ} 2 1 = cc in absurd (omega arith)
  ];
  stored = λ h. elim h [
    | place q c n a e low high ↦ let z : ◌≡◌ {A = ℕ} 0 1 = cc in absurd (omega arith)
    | page r c a e ↦ let z : ◌≡◌ {A = ℕ} 0 1 = cc in absurd (omega arith)
  ];
  freed = λ h. elim h [
    | place q c n a e low high ↦ let z : ◌≡◌ {A = ℕ} 0 1 = cc in absurd (omega arith)
    | page r c a e ↦ let z : ◌≡◌ {A = ℕ} 0 1 = cc in absurd (omega arith)
  ];
}

-- ---- steps that the claim excludes

-- a step of `cells` by its only frame
abbrev pub step_from : Bytes → Effect → Step
step_from s e = record { form = []; state = s; output = []; top = 0; effect = e }

-- the state of nines with place 5 used; with page 2 owned too, and its place 5 used
unfoldable pub with_used : Bytes
with_used = written (put_mark nines 1 5 1 ∷ []) nines

unfoldable pub with_used_next : Bytes
with_used_next = written (put_owner 2 1 ∷ put_mark nines 2 5 1 ∷ []) nines

-- of `blobs` as opened, with page 1 the untyped region's; and with its place 3 used
unfoldable pub untyped_page : Bytes
untyped_page = written (put_owner 1 1 ∷ []) (first_at all_pages (blobs []) [])

unfoldable pub untyped_used : Bytes
untyped_used = written (put_mark untyped_page 1 3 1 ∷ []) untyped_page

-- the state of nines, of a machine that may own pages 2 and 3 alone
unfoldable pub of_two_pages : Bytes
of_two_pages = written (put_range (all_but 1 60) ∷ []) nines

in_place_case : (s : Bytes) (p j i : ℕ) → in_place_of s p j i ≡ true → InPlace (cells []) (view s) p j i
unfolding in_place_of
in_place_case s p j i e = does_true (dec_in_place (cells []) (view s) p j i) e

pub record Excluded : Type 0 where
  -- objects of 5 bytes: one that is handed out with fewer bytes cleared, as it was or but for its last byte
  pub as_it_was : ¬ NewZero (cells []) (step_from nines (take_places 1 0 1 0 0))
  pub last_byte_kept : ¬ NewZero (cells []) (step_from nines (take_places 1 0 1 4 0))
  -- with more: its free neighbour is cleared
  pub neighbour_cleared : ¬ FreeKept (cells []) (step_from nines (take_places 1 0 1 10 0))
  -- a used object, cleared as it is handed out again, or as its page is granted again
  pub used_handed_out : ¬ UsedKept (cells []) (step_from with_used (take_places 1 5 1 5 0))
  pub used_granted : ¬ UsedKept (cells []) (step_from with_used (grant_page 1 0 1 0))
  -- what is handed out was used; or is not used afterwards; or another address is in the register
  pub taken_used : ¬ Taken (cells []) (step_from with_used (take_places 1 5 1 5 0)) 1 5 1 0
  pub taken_used_behind : ¬ Taken (blobs []) (step_from untyped_used (take_places 1 0 4 1 0)) 1 0 4 0
  pub taken_unmarked : ¬ Taken (cells []) (nines_step 0 281 (go_to 1)) 1 5 1 0
  pub taken_three_of_four : ¬ Taken (blobs []) (step_from untyped_page (take_places 1 5 3 1 0)) 1 5 4 0
  -- no place, or two, where a typed pointer asks for one
  pub taken_none : ¬ Taken (cells []) (step_from nines (take_places 1 5 0 5 0)) 1 5 0 0
  pub taken_two : ¬ Taken (cells []) (step_from nines (take_places 1 5 2 5 0)) 1 5 2 0
  pub taken_elsewhere : ¬ Taken (cells []) (step_from nines (take_places 1 5 1 4 0)) 1 5 1 0
  -- of what an effect takes, or gets with its page, each place counts: here the fourth was used
  pub taken_used_fourth : ¬ NewTaken (blobs []) (step_from untyped_used (take_places 1 0 4 1 0))
  pub granted_used_fourth : ¬ NewTaken (blobs []) (step_from untyped_used (grant_page 1 0 4 0))
  -- a free that takes the mark of another page's object: place 261 of page 1 would be place 5 of page 2
  pub other_freed : ¬ UsedStays (cells []) (step_from with_used_next (free_place 1 261))
  -- of a machine that may own pages 2 and 3 alone: a load from page 1, a store into page 4, a grant of page 4
  pub loaded_below : ¬ InOwnPages (step_from of_two_pages (fetch 0 0 511 1))
  pub stored_above : ¬ InOwnPages (step_from of_two_pages (save 0 1024 1 8))
  pub granted_above : ¬ InOwnPages (step_from of_two_pages (grant_page 4 0 1 0))

pub excluded : Excluded
unfolding in_place_of dec_in_place dec_in_object put_marks state_writes apply_state with_used with_used_next untyped_page untyped_used of_two_pages nines_step bit with_bit number little splice list_from map_dec dec_both dec_local dec_live look type_of first_from first beside copies_of copies sub_layout flat_with fields_from fields_with layouts flat frame_function frame_instruction frame_register frame_map page_owner page_mark memory_byte view written words_of frame_of first_register first_at nines lowest_numbers lowest is_in sub dec_lt dec_le ℕ_discrete
excluded = record {
  as_it_was = λ h. let z : ◌≡◌ {A = ℕ} 9 0 = h 1 0 256 (in_place_case nines 1 0 256 refl) (place 0 1 0 0 refl (omega arith) (omega arith)) in absurd (omega arith);
  last_byte_kept = λ h. let z : ◌≡◌ {A = ℕ} 9 0 = h 1 0 260 (in_place_case nines 1 0 260 refl) (place 0 1 4 0 refl (omega arith) (omega arith)) in absurd (omega arith);
  neighbour_cleared = λ h. elim (h 1 1 261 (in_place_case nines 1 1 261 refl) refl (λ e. let z : ◌≡◌ {A = ℕ} 0 9 = e in absurd (omega arith))) [
    | inl w ↦ absurd (omega (arith, w))
    | inr o ↦ elim o [
      | place q c n a e low high ↦ let x : ◌≡◌ {A = ℕ} 0 q = cc in let y : ◌≡◌ {A = ℕ} 1 c = cc in absurd (omega arith)
      | page r c a e ↦ let z : ◌≡◌ {A = ℕ} 0 1 = cc in absurd (omega arith)
    ]
  ];
  used_handed_out = λ h. let w = h 1 5 281 (in_place_case with_used 1 5 281 refl) (λ e. let z : ◌≡◌ {A = ℕ} 1 0 = e in absurd (omega arith)) (λ e. let z : ◌≡◌ {A = ℕ} 0 9 = e in absurd (omega arith)) in absurd (omega (arith, w));
  used_granted = λ h. let w = h 1 5 281 (in_place_case with_used 1 5 281 refl) (λ e. let z : ◌≡◌ {A = ℕ} 1 0 = e in absurd (omega arith)) (λ e. let z : ◌≡◌ {A = ℕ} 0 9 = e in absurd (omega arith)) in absurd (omega (arith, w));
  taken_used = λ h. let z : ◌≡◌ {A = ℕ} 1 0 = h.free 0 (omega arith) in absurd (omega arith);
  taken_used_behind = λ h. let z : ◌≡◌ {A = ℕ} 1 0 = h.free 3 (omega arith) in absurd (omega arith);
  taken_unmarked = λ h. absurd (h.used 0 (omega arith) refl);
  taken_three_of_four = λ h. absurd (h.used 3 (omega arith) refl);
  taken_none = λ h. let z : ◌≡◌ {A = ℕ} 0 1 = h.count in absurd (omega arith);
  taken_two = λ h. let z : ◌≡◌ {A = ℕ} 2 1 = h.count in absurd (omega arith);
  taken_elsewhere = λ h. let z : ◌≡◌ {A = ℕ} 276 281 = h.address in absurd (omega arith);
  taken_used_fourth = λ h. let z : ◌≡◌ {A = ℕ} 1 0 = (h.place 1 0 4 1 0 refl).free 3 (omega arith) in absurd (omega arith);
  granted_used_fourth = λ h. let z : ◌≡◌ {A = ℕ} 1 0 = (h.page 1 0 4 0 refl).free 3 (omega arith) in absurd (omega arith);
  other_freed = λ h. elim (h 2 5 (λ e. let z : ◌≡◌ {A = ℕ} 1 0 = e in absurd (omega arith))) [
    | inl u ↦ absurd (u refl)
    | inr o ↦ elim o [
      | inl e ↦ let z : ◌≡◌ {A = ℕ} 1 2 = cc in absurd (omega arith)
      | inr e ↦ let z : ◌≡◌ {A = ℕ} 1 0 = e in absurd (omega arith)
    ]
  ];
  loaded_below = λ h. let z = h 511 (omega arith) (inl (omega arith, omega arith)) in absurd (omega (arith, z));
  stored_above = λ h. let z = h 1024 (omega arith) (inr (inl (omega arith, omega arith))) in absurd (omega (arith, z));
  granted_above = λ h. let z = h 1024 (omega arith) (inr (inr (omega arith, omega arith))) in absurd (omega (arith, z));
}
