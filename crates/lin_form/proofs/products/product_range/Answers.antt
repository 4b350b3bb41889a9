use Rattle.std.proofs.Common.{refl}
use Rattle.fixed_iv.proofs.HeldLemmas.{holds_product, holds_whole}
use Rattle.lin_form.proofs.products.product_range.Goals as goal

pub returns-then-is_gentle-2 : goal.returns-then-is_gentle-2
returns-then-is_gentle-2 c h x y k l = holds_whole (record { low = refl; high = refl }) _

pub returns : goal.returns
returns c h x y k l = holds_product c.mul.ensures k.ranged l.ranged
