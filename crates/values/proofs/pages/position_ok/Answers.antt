-- `values::pages::position_ok` meets its contract: the primitive that is found, in each page and place. Assumes nothing.
use Rattle.values.specs.Pages.{owned_by, owned_integer, places_same_law, position_pointer}
use Rattle.values.proofs.pages.position_ok.Goals as goal

pub returns-then-form-eq1 : goal.returns-then-form-eq1
returns-then-form-eq1 c =
    let m = c.args.mapped.now in
    (owned_integer c.requires.within.2 m.typed.table c.args.i c.place_prim-x.result c.place_prim-x.ensures.0 c.term_at-t.result c.term_at-t.ensures c.form.ensures m.typed.state.state_bytes c.if-form-eq1.true, c.requires.last)

pub aim_at-aim-requires : goal.aim_at-aim-requires
aim_at-aim-requires c =
    let m = c.args.mapped.now in
    record {
      points = position_pointer c.requires.within.2 m.typed.table c.args.i c.place_prim-x.result c.place_prim-x.ensures.0 c.term_at-t.result c.term_at-t.ensures c.form.ensures c.if-form-eq1.false c.requires.within.1;
      last = c.requires.last;
    }

pub all_places-requires : goal.all_places-requires
all_places-requires c = record { within = c.place_prim-x.ensures.2; holds = c.aim_at-aim.ensures.holds }

pub returns : goal.returns
returns c =
    let m = c.args.mapped.now in
    (owned_by c.requires.within.2 m.typed.table c.args.i c.place_prim-x.result c.place_prim-x.ensures.0 c.term_at-t.result c.term_at-t.ensures c.owner-owner.ensures (places_same_law c.aim_at-aim.ensures.same c.all_places.ensures.0), c.all_places.ensures.1)
