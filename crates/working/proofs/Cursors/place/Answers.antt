-- `working::Cursors::place` meets its contract, by `put`.
use Rattle.working.proofs.Cursors.place.Goals as goal

pub returns : goal.returns
returns c = c.put.ensures c.args.self.held
