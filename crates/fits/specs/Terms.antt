-- The test of a term, where its kind is known. Assumes nothing.
use Rattle.std.specs.Prelude.{◌≡◌, ◌≢◌, false, ◌&&◌, ltb}
use Rattle.std.proofs.Common.{ne_eqb}
use Rattle.std.proofs.Math.Bool.{or-false}
use Rattle.rules.specs.Limits.{most_terms}
use Rattle.rules.specs.File.{kind_integer, kind_pointer, kind_array, kind_struct}
use Rattle.rules.specs.Records.{integer_fits, pointer_fits, array_fits, struct_fits, term_fits}
use Rattle.rules.specs.declared.Record.{Record}
use Rattle.rules.specs.declared.Walk.{Walk}

module _ (t w : Walk) (x : Record) where
  pub term_integer : x.kind ≡ kind_integer → ltb w.terms most_terms && integer_fits x ≡ term_fits t w x
  unfolding term_fits
  term_integer e = rw e (simp or-false)

  pub term_pointer : x.kind ≡ kind_pointer → ltb w.terms most_terms && pointer_fits w x ≡ term_fits t w x
  unfolding term_fits
  term_pointer e = rw e (simp or-false)

  pub term_array : x.kind ≡ kind_array → ltb w.terms most_terms && array_fits w x ≡ term_fits t w x
  unfolding term_fits
  term_array e = rw e (simp or-false)

  pub term_struct : x.kind ≡ kind_struct → ltb w.terms most_terms && struct_fits t x ≡ term_fits t w x
  unfolding term_fits
  term_struct e = rw e

  pub term_none : x.kind ≢ kind_integer → x.kind ≢ kind_pointer → x.kind ≢ kind_array → x.kind ≢ kind_struct → ltb w.terms most_terms && false ≡ term_fits t w x
  unfolding term_fits
  term_none a b c d = rw (ne_eqb x.kind kind_integer a, ne_eqb x.kind kind_pointer b, ne_eqb x.kind kind_array c, ne_eqb x.kind kind_struct d)
