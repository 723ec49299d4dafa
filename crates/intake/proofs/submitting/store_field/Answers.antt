-- `intake::submitting::store_field` meets its contract: a store at the field's index.
use Rattle.intake.proofs.submitting.store_field.Goals as goal

pub returns : goal.returns
returns c = rw (← c.field_index.ensures) c.store.ensures
