-- Memory that was lent to a call and is whole again.
use Rattle.std.proofs.Common.{◌≡◌, ℕ, List, length, vec_items, Vec, sym, ap, ◌∙◌}
use Rattle.std.specs.declared.alloc.Global.{Global}
use Rattle.std.specs.Vec.{with_items}
use Rattle.std.proofs.lemmas.List.{with_items_is}

pub items_refilled : (memory : Vec ℕ Global) (lent last : List ℕ) → lent ≡ vec_items memory → length last ≡ length lent → vec_items (with_items memory last) ≡ last
items_refilled memory lent last Lent-is long = with_items_is memory last (long ∙ (ap length Lent-is ∙ sym memory.ok.0))
