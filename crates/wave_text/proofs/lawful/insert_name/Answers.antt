use Rattle.wave_text.proofs.Keys.{inserted}
use Rattle.wave_text.proofs.lawful.insert_name.Goals as goal

pub returns : goal.returns
returns c = λ absent. inserted c.args.name.now c.in_ok-copy.copy c.args.names.now.keys c.insert.new.self.keys c.in_ok-copy.ensures.items
    c.in_ok-insert.ensures.keys absent
