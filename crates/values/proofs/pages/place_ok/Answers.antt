-- `values::pages::place_ok` meets its contract: the address is in the page. Assumes nothing.
use native.Mathlib.Omega.{arith}
use mathlib.Core.Path.{refl}
use Rattle.values.specs.Pages.{place_few, place_by}
use Rattle.values.proofs.pages.place_ok.Goals as goal

pub overflow_mul-x-2 : goal.overflow_mul-x-2
overflow_mul-x-2 c = let q = c.requires.within in omega (arith, place_few c.args.size c.args.j q.2)

pub overflow_add-x : goal.overflow_add-x
overflow_add-x c = let q = c.requires.within in omega (arith, q.1, place_few c.args.size c.args.j q.2)

pub overflow_cast-x : goal.overflow_cast-x
overflow_cast-x c = let q = c.requires.within in omega (arith, q.1, place_few c.args.size c.args.j q.2)

pub overflow_add-x-2 : goal.overflow_add-x-2
overflow_add-x-2 c = let q = c.requires.within in omega (arith, q.0, q.1, place_few c.args.size c.args.j q.2)

pub pointer_ok-requires : goal.pointer_ok-requires
pointer_ok-requires c =
    let q = c.requires.within in
    let m = c.args.mapped.now in
    record { table = m.typed.table; narrow = m.narrow; address = omega (arith, q.0, q.1, place_few c.args.size c.args.j q.2); holds = c.requires.holds }

pub returns : goal.returns
returns c = (place_by c.requires.within.2 refl c.pointer_ok.ensures.0, c.pointer_ok.ensures.1)
