use mathlib.Core.Path.{refl}
use native.Mathlib.Omega.{arith}
use Rattle.script.proofs.Puts.{copied}
use Rattle.script.proofs.printing.Page.text.Goals as goal

pub returns : goal.returns
returns c =
    let page = c.args.self.now in
    record { same = refl; at = refl; out = copied page.out.now page.at _ _ _ c.copy_from_slice.ensures.after (omega arith) (omega (arith, c.requires)) }
