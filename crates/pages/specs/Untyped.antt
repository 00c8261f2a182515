-- Kind 36's search in a page (document 02, P3): it starts behind the places that are known to be used, and ends where no run can start.
-- Assumes nothing.
use Rattle.std.proofs.Math.Path.{◌≡◌, sym, ap}
use Rattle.std.proofs.Common.{◌∙◌, add-zero, arith, ne_eqb}
use Rattle.std.proofs.Math.Bool.{not}
use Rattle.std.specs.Option.{SomeIff}
use Rattle.std.specs.Prelude.{Option, Some, None, unwrap_or, ℕ, ◌+◌, ◌<◌, ◌≤◌}
use Rattle.std.proofs.Math.Dec.{eqb}
use Rattle.words.specs.Bytes.{Bytes}
use Rattle.words.specs.FirstLaws.{first_least, first_none, all_broken}
use Rattle.rules.specs.Limits.{page_bytes}
use Rattle.rules.specs.State.{page_mark}
use Rattle.rules.specs.Step.{unused_run, run_starts, unused_place}
use Rattle.state.specs.Runs.{Scanned}
use Rattle.pages.specs.Known.{UsedBelow}

module _ (s : Bytes) (c p : ℕ) where
  -- no run starts at a used place
  pub scan_from : 0 < c → (n : ℕ) → UsedBelow s p n → Scanned (page_mark s) c p n 0
  unfolding unused_run
  scan_from some n h = record {
    before = λ q b. ap not (sym (all_broken c (λ i. eqb (page_mark s p (q + i)) 0) 0 some (ne_eqb (page_mark s p (q + 0)) 0 (λ z.
        let e : ◌≡◌ {A = ℕ} 1 0 = sym (h q b) ∙ ap (page_mark s p) (sym (add-zero q)) ∙ z in absurd (omega arith)))));
    unused = λ o b. absurd (omega arith);
  }

  pub scan_over : (n j i : ℕ) → run_starts n c ≤ j → Scanned (page_mark s) c p j i → run_starts n c ≡ unused_place (page_mark s) n c p
  unfolding unused_place
  scan_over n j i l h = sym (first_none (run_starts n c) (λ j. not (unused_run (page_mark s) c p j)) (λ q b. h.before q (omega arith)))

-- how many places from the first on are used, where the lowest unused one is known or there is none
pub run_known : (s : Bytes) (p : ℕ) (o : Option ℕ) → SomeIff o (unused_place (page_mark s) page_bytes 1 p < run_starts page_bytes 1) (unused_place (page_mark s) page_bytes 1 p)
    → unwrap_or o page_bytes ≡ unused_place (page_mark s) page_bytes 1 p
unfolding unused_place
run_known s p None h = let l = (first_least (run_starts page_bytes 1) (λ j. not (unused_run (page_mark s) 1 p j))).within in omega arith
run_known s p (Some j) h = h.1
