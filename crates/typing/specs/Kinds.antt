-- The kinds by their numbers: the kind that code reads of a number, d where no instruction has it, is k where the number is that of k,
-- and only there, if k is not d. Assumes nothing.
use Rattle.std.specs.Prelude.{◌≡◌, refl, Bool, true, false, cond, eqb, ℕ, List, [], ◌∷◌, Option, Some, unwrap_or}
use Rattle.std.proofs.Common.{sym, ap, ◌∙◌, eqb-true, eq-eqb, ne_eqb}
use Rattle.words.specs.Choose.{true_not_false}
use Rattle.rules.specs.Kinds.{kind_number, kind_among, kinds, kind_numbered}
use Rattle.rules.specs.declared.kind.Kind.{Kind}
use Rattle.rules.specs.declared.kind.Kind.TheVariants.{Constant, Copy, Operate, ZeroExtend, SignExtend, Address, Check, Field, Index, Load, Store, New, Free, Input, Output, Jump, Branch, Call, Return, NewBytes, LoadByte, StoreByte, CheckBytes}

-- each kind is the one with its number
pub kind_back : (k : Kind) → kind_numbered (kind_number k) ≡ Some k
kind_back Constant = refl
kind_back Copy = refl
kind_back Operate = refl
kind_back ZeroExtend = refl
kind_back SignExtend = refl
kind_back Address = refl
kind_back Check = refl
kind_back Field = refl
kind_back Index = refl
kind_back Load = refl
kind_back Store = refl
kind_back New = refl
kind_back Free = refl
kind_back Input = refl
kind_back Output = refl
kind_back Jump = refl
kind_back Branch = refl
kind_back Call = refl
kind_back Return = refl
kind_back NewBytes = refl
kind_back LoadByte = refl
kind_back StoreByte = refl
kind_back CheckBytes = refl

among_is : (ks : List Kind) (n : ℕ) (d k : Kind) → unwrap_or (kind_among ks n) d ≡ k → eqb (kind_number d) (kind_number k) ≡ false → n ≡ kind_number k
among_is [] n d k e other = absurd (true_not_false (eq-eqb _ _ (ap kind_number e)) other)
among_is (j ∷ ks) n d k e other = pick (eqb n (kind_number j)) refl (λ q. among_is ks n d k q other)
  where
    pick : (b : Bool) → eqb n (kind_number j) ≡ b → (unwrap_or (kind_among ks n) d ≡ k → n ≡ kind_number k) → n ≡ kind_number k
    pick true h rest = eqb-true n (kind_number j) h ∙ ap kind_number (ap (λ (b : Bool). unwrap_or (cond b (Some j) (kind_among ks n)) d) (sym h) ∙ e)
    pick false h rest = rest (ap (λ (b : Bool). unwrap_or (cond b (Some j) (kind_among ks n)) d) (sym h) ∙ e)

module _ (n : ℕ) {o : Option Kind} {r : Kind} (d k : Kind) (found : o ≡ kind_numbered n) (read : r ≡ unwrap_or o d) where
  meant : r ≡ unwrap_or (kind_numbered n) d
  meant = read ∙ ap (λ (o : Option Kind). unwrap_or o d) found

  pub kind_is : r ≡ k → eqb (kind_number d) (kind_number k) ≡ false → n ≡ kind_number k
  kind_is e other = among_is kinds n d k (sym meant ∙ e) other

  pub kind_not : (r ≡ k → ⊥) → eqb n (kind_number k) ≡ false
  kind_not un = ne_eqb n (kind_number k) (λ q. un (meant ∙ ap (λ (m : ℕ). unwrap_or (kind_numbered m) d) q ∙ ap (λ (o : Option Kind). unwrap_or o d) (kind_back k)))
