-- `text::listing::list_plan` meets its contract.
use mathlib.Core.Path.{◌≡◌}
use borrow.Author.Rules.{rules}
use Rattle.std.specs.Prelude.{Ok}
use Rattle.std.proofs.lemmas.Result.{err_from_is_err_and}
use Rattle.text.specs.Listing.{listed_of}
use Rattle.text.proofs.Ways.{number-of, place-of, of-refused, after-refused, done-few, of-done, after-done}
use Rattle.text.proofs.listing.list_plan.Goals as goal

pub returns-in_err-made : goal.returns-in_err-made
returns-in_err-made c =
    let a = c.args in
    let t = c.translate.ensures.value in
    let p = err_from_is_err_and c.from_residual.result c.from_residual.ensures.1 in
    let is : c.from_residual.result ≡ listed_of a.head a.plan.now = rw (p.1, p.2) (of-refused a.head a.plan.now t c.in_err-made.was) in
    record {
      value = is;
      out_after = after-refused a.head a.plan.now t c.in_err-made.was _;
      result_value = number-of _ _ is;
      result_value_2 = place-of _ _ is;
    }

pub put_listing-requires : goal.put_listing-requires
put_listing-requires c =
    let few = done-few c.args.head c.args.plan.now c.translate.ensures.value c.in_ok-made.was in
    record { fact_1 = few _ (search rules); fact_2 = few _ (search rules) }

pub returns : goal.returns
returns c =
    let a = c.args in
    let t = c.translate.ensures in
    let is : Ok c.put_listing.result ≡ listed_of a.head a.plan.now =
    of-done a.head a.plan.now t.value c.in_ok-made.was _ _ t.ticks_after t.words_after c.put_listing.ensures (search rules) in
    record {
      value = is;
      out_after = after-done a.head a.plan.now t.value c.in_ok-made.was _ _ t.ticks_after t.words_after c.put_listing.ensures (search rules);
      result_value = number-of _ _ is;
      result_value_2 = place-of _ _ is;
    }
