-- `text::listing::list_at_power_on` meets its contract.
use Rattle.text.proofs.listing.list_at_power_on.Goals as goal

pub returns : goal.returns
returns c = record {
  value = rw (← c.power_on.ensures) c.list_plan.ensures.value;
  out_after = rw (← c.power_on.ensures) c.list_plan.ensures.out_after;
}
