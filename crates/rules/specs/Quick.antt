-- The verdict again, computed in one walk: `quick_of` carries the walk from record to record where `verdict_of` names the walk
-- before each. They are equal (`quick`), so cases are computed by the one and hold of the other. A proof for the tables of
-- cases; nothing here says what the rules are. Assumes nothing.
use Rattle.std.specs.Prelude.{◌≡◌, Bool, true, cond, [], ◌∷◌, ℕ, zero, suc, ◌+◌, ltb}
use Rattle.std.proofs.Math.Path.{refl}
use Rattle.std.proofs.Common.{ap}
use Rattle.std.proofs.Math.Bool.{false}
use Rattle.words.specs.Bytes.{Bytes}
use Rattle.words.specs.First.{first, first_from}
use Rattle.rules.specs.Limits.{bad_record}
use Rattle.rules.specs.Stages.{verdict}
use Rattle.rules.specs.File.{records, length_stage, block_stage}
use Rattle.rules.specs.Walk.{Scan, scan, next_scan, whole, start}
use Rattle.rules.specs.Records.{record_test_with, record_test}
use Rattle.rules.specs.Verdict.{module_rules, record_rules, verdict_of}
use Rattle.rules.specs.declared.Walk.{Walk}
use Rattle.rules.specs.Refusals.{Verdict, Refused}

unfoldable pub along : Bytes → (Walk → ℕ → Bool) → Scan → ℕ → ℕ → ℕ
along f t s r zero = r
along f t s r (suc k) = elim (t s.walk r) [ true ↦ (let n = next_scan f s r in along f t n (suc r) k) | false ↦ r ]

along_first : (f : Bytes) (t : Walk → ℕ → Bool) (k r : ℕ) → first_from (λ i. t (scan f i).walk i) r k ≡ along f t (scan f r) r k
unfolding along first_from
along_first f t zero r = refl
along_first f t (suc k) r = go (t (scan f r).walk r) (along_first f t k (suc r))
  where
    go : (b : Bool) → first_from (λ i. t (scan f i).walk i) (suc r) k ≡ along f t (scan f (suc r)) (suc r) k
        → ◌≡◌ {A = ℕ} (elim b [ true ↦ first_from (λ i. t (scan f i).walk i) (suc r) k | false ↦ r ])
        (elim b [ true ↦ along f t (next_scan f (scan f r) r) (suc r) k | false ↦ r ])
    go true e = unfold scan in e
    go false e = refl

abbrev pub refused_at : ℕ → ℕ → Verdict → Verdict
refused_at n p v = cond (ltb p n) (Refused bad_record p) v

unfoldable pub quick_records : Bytes → Verdict
quick_records f =
    let t = whole f in
    let p = along f (λ w r. record_test_with f t r w) (record { walk = start; starts = [] }) 0 (records f + 1) in
    refused_at (records f + 1) p (module_rules f)

records_quick : (f : Bytes) → record_rules f ≡ quick_records f
unfolding record_rules quick_records verdict first record_test scan
records_quick f = ap (λ p. refused_at (records f + 1) p (module_rules f)) (along_first f (λ w r. record_test_with f (whole f) r w) (records f + 1) 0)

unfoldable pub quick_of : Bytes → Verdict
quick_of f = verdict (length_stage f ∷ block_stage f ∷ []) (quick_records f)

pub quick : (f : Bytes) → verdict_of f ≡ quick_of f
unfolding verdict_of quick_of
quick f = ap (verdict (length_stage f ∷ block_stage f ∷ [])) (records_quick f)
