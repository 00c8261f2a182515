-- `values::pages::objects_of` meets its contract: the term of the region, under its frame's map. Assumes nothing.
use Rattle.values.specs.Pages.{objects_are}
use Rattle.values.proofs.pages.objects_of.Goals as goal

pub returns : goal.returns
returns c =
    let m = c.args.mapped.now in
    objects_are m.typed.table m.narrow c.requires.0 c.requires.1 c.place_of.ensures.0 c.map_of-map.ensures c.held.ensures c.extent_at-e.ensures.0 c.extent_at-e.ensures.1.1
