-- Machines that must have no proof (document 01, conditions of acceptance): one that leaves the state as opened, one that runs the first
-- call's budget and only reports later ones, one that invents its step count, one that stops with 34 while a page is free. A contract
-- says that going on is `go_of`, and no such machine is. (One that says running early: `running_whole`, ForCode.) Assumes nothing.
use Rattle.std.proofs.Math.Path.{◌≡◌}
use Rattle.std.proofs.Common.{sym, ap, ◌∙◌, subst, arith}
use Rattle.std.specs.Prelude.{false, ◌≢◌, [], ℕ, ◌-◌, ◌<◌, ◌≤◌, eqb, replicate}
use Rattle.std.proofs.Math.Bool.{not}
use Rattle.std.proofs.lemmas.List.{length-replicate}
use borrow.Author.Tests.{eq-eqb, not-true}
use Rattle.words.specs.Bytes.{Bytes}
use Rattle.words.specs.FirstLaws.{first_from_least}
use Rattle.words.specs.Choose.{cond_eq, split_lt, true_not_false}
use Rattle.rules.specs.Limits.{output_bytes, state_bytes}
use Rattle.rules.specs.Decode.{module_of}
use Rattle.rules.specs.State.{view, all_pages}
use Rattle.rules.specs.Heap.{places_in_page}
use Rattle.rules.specs.Step.{Effect, stop, has_room, room_page, has_place, unowned_page, allocate}
use Rattle.rules.specs.Host.{Outcome, ended, running, Went, went, outcome_of, go_of, first_state, left_state, left_output}
use Rattle.rules.specs.CasesMachine as cases
use Rattle.rules.specs.CasesMachine.{worked_file}
use Rattle.soundness.specs.ForCode.{opened_steady, budget_zero}
use Rattle.soundness.specs.Worked.{accepted_worked, no_bytes_law, worked_ran, worked_outcome, worked_goes}

-- ---- on document 01's worked file

fresh : Bytes
fresh = first_state (module_of worked_file) []

blank : Bytes
blank = replicate output_bytes 0

runs_fresh : outcome_of (view fresh) ≡ running
unfolding outcome_of fresh
runs_fresh = cond_eq running _ (opened_steady all_pages (omega arith) (omega arith) worked_file [] (replicate state_bytes 7) (first_state (module_of worked_file) []) accepted_worked no_bytes_law (cases.worked).opens).1

goes : go_of worked_file [] fresh blank 1000000 ≡ went (ended 42) 2 worked_ran.state worked_ran.output
unfolding fresh blank
goes = worked_goes

waits : go_of worked_file [] fresh blank 0 ≡ went running 0 fresh blank
unfolding fresh blank
waits = budget_zero worked_file [] (replicate state_bytes 7) [] (replicate output_bytes 0) (first_state (module_of worked_file) []) no_bytes_law (cases.worked).opens no_bytes_law (omega arith)
    (length-replicate {A = ℕ} output_bytes 0)

-- the state after the run is not the one before it
moved : worked_ran.state ≡ fresh → ⊥
moved e =
    let a : ended 42 ≡ running = sym worked_outcome ∙ ap (λ (s : Bytes). outcome_of (view s)) e ∙ runs_fresh in
    let z : ◌≡◌ {A = ℕ} 0 1 = cc in
    absurd (omega arith)

-- "a machine that leaves the state as opened"
pub not_idle : ((f form s o : Bytes) (b : ℕ) → left_state (go_of f form s o b) s ≡ s) → ⊥
not_idle h = moved (sym (ap (λ (w : Went). left_state w fresh) goes) ∙ h worked_file [] fresh blank 1000000)

-- "that runs the first call's budget and only reports later ones"
pub not_first_only : ((f form s o : Bytes) (b c : ℕ) → left_state (go_of f form (left_state (go_of f form s o b) s) (left_output (go_of f form s o b) o) c) (left_state (go_of f form s o b) s)
    ≡ left_state (go_of f form s o b) s) → ⊥
not_first_only h =
    moved (sym (ap (λ (w : Went). left_state w fresh) goes)
    ∙ subst (λ (w : Went). left_state (go_of worked_file [] (left_state w fresh) (left_output w blank) 1000000) (left_state w fresh) ≡ left_state w fresh) waits (h worked_file [] fresh blank 0 1000000))

-- "that invents its step count": it is neither the budget nor one number
pub not_the_budget : ((f form s o : Bytes) (b : ℕ) (a : Outcome) (n : ℕ) (t u : Bytes) → go_of f form s o b ≡ went a n t u → n ≡ b) → ⊥
not_the_budget h = let e : ◌≡◌ {A = ℕ} 2 1000000 = h worked_file [] fresh blank 1000000 (ended 42) 2 worked_ran.state worked_ran.output goes in absurd (omega arith)

pub not_one_count : (k : ℕ) → ((f form s o : Bytes) (b : ℕ) (a : Outcome) (n : ℕ) (t u : Bytes) → go_of f form s o b ≡ went a n t u → n ≡ k) → ⊥
not_one_count k h =
    let e : 2 ≡ k = h worked_file [] fresh blank 1000000 (ended 42) 2 worked_ran.state worked_ran.output goes in
    let d : 0 ≡ k = h worked_file [] fresh blank 0 running 0 fresh blank waits in
    absurd (omega arith)

-- ---- "one that stops with 34 while a page is free"

-- a stop of the allocator: no page of the region has c unused places in a row, and no page is unowned
pub record Full (owner : ℕ → ℕ) (mark : ℕ → ℕ → ℕ) (lo hi r s c : ℕ) : Type 0 where
  pub room : (p : ℕ) → lo ≤ p → p < hi → has_room owner (has_place mark (places_in_page s) c) r p ≡ false
  pub free : (p : ℕ) → lo ≤ p → p < hi → owner p ≢ 0

module _ (owner : ℕ → ℕ) (mark : ℕ → ℕ → ℕ) (lo hi r s c a n : ℕ) (l : lo ≤ hi) where
  pub full_when_stopped : allocate owner mark lo hi r s c a ≡ stop n → Full owner mark lo hi r s c
  unfolding allocate room_page unowned_page
  full_when_stopped =
      split_lt (λ (e : Effect). e ≡ stop n → Full owner mark lo hi r s c) (room_page owner (has_place mark (places_in_page s) c) lo hi r) hi _ _
      (λ h e. let z : ◌≡◌ {A = ℕ} 0 1 = cc in absurd (omega arith))
      (λ h.
      split_lt (λ (e : Effect). e ≡ stop n → Full owner mark lo hi r s c) (unowned_page owner lo hi) hi _ _
      (λ k e. let z : ◌≡◌ {A = ℕ} 0 1 = cc in absurd (omega arith))
      (λ k e.
      let p = first_from_least (λ p. not (has_room owner (has_place mark (places_in_page s) c) r p)) lo (hi - lo) in
      let q = first_from_least (λ p. not (eqb (owner p) 0)) lo (hi - lo) in
      record {
        room = λ i b d. not-true (has_room owner (has_place mark (places_in_page s) c) r i) (p.before i b (omega arith));
        free = λ i b d z. true_not_false (eq-eqb (owner i) 0 z) (not-true (eqb (owner i) 0) (q.before i b (omega arith)));
      }))
