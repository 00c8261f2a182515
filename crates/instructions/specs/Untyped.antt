-- What kinds 36 to 39 ask of a register, by its type and by the entry of record 8 of its region. Assumes nothing.
use Rattle.std.specs.Prelude.{◌≡◌, Bool, ℕ, eqb}
use Rattle.std.proofs.Math.Path.{ap, ap₂}
use Rattle.std.proofs.Common.{◌∙◌}
use Rattle.std.proofs.Math.Bool.{◌&&◌}
use Rattle.std.proofs.Math.Decide.{ℕ_discrete}
use Rattle.std.proofs.Math.Dec.{ltb}
use Rattle.words.specs.Bytes.{Bytes}
use Rattle.words.specs.Choose.{eq_reads}
use Rattle.words.specs.Decide.{does}
use Rattle.rules.specs.File.{untyped_mark}
use Rattle.rules.specs.Types.{variable, Tree, bytes, form, dec_tree}
use Rattle.rules.specs.Module.{regions}
use Rattle.terms.specs.Readers.{entry_type, entry_bytes, entry_form}
use Rattle.functions.specs.Functions.{function_at, region_term}
use Rattle.judgment.specs.Registers.{decided, into_bytes, region_is}
use Rattle.judgment.specs.Types.{Describes}
use Rattle.judgment.specs.declared.types.RegisterType.{RegisterType}

-- an entry of record 8 marks an untyped region by 255, and by nothing else
untyped_entry : (f : Bytes) (u : ℕ) → eqb u untyped_mark ≡ does (dec_tree (entry_type f u) bytes)
untyped_entry f u = decided (dec_tree (entry_type f u) bytes) (eq_reads u untyped_mark) (entry_bytes f u) (λ e. back e (ℕ_discrete u untyped_mark))
  where
    back : entry_type f u ≡ bytes → Dec (u ≡ untyped_mark) → u ≡ untyped_mark
    back e (yes z) = z
    back e (no n) = absurd (entry_form f u n (ap form e))

module _ (f : Bytes) (h a : ℕ) {e : RegisterType} (d : Describes f h a e) (v u : ℕ) where
  pub into_bytes_law : v ≡ e.region → u ≡ region_term f h v → eqb e.form 11 && (ltb v (regions (function_at f h)) && eqb u untyped_mark) ≡ into_bytes (function_at f h) a
  unfolding into_bytes
  into_bytes_law r t =
      let F = function_at f h in
      ap₂ ◌&&◌ d.untyped
      (ap (λ (b : Bool). ltb v (regions F) && b) (untyped_entry f u ∙ ap (λ (T : Tree variable). does (dec_tree T bytes)) (region_is f h v t))
      ∙ ap (λ (w : ℕ). ltb w (regions F) && does (dec_tree (F.region_type w) bytes)) (r ∙ d.region))
