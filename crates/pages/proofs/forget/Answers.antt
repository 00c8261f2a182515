-- `pages::forget` meets its contract, by the definition.
use mathlib.Core.Path.{◌∙◌, ap}
use mathlib.Core.List.{List}
use Prim.Native.Nat.{ℕ}
use Rattle.pages.specs.Known.{hint_page, lowered, forgot}
use Rattle.pages.proofs.forget.Goals as goal

pub returns : goal.returns
unfolding forgot
returns c = c.lower-2.ensures ∙ ap (λ (l : List ℕ). lowered l hint_page c.args.q) c.lower.ensures
