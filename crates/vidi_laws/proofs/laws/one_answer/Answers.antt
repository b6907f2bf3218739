use Rattle.vidi_laws.proofs.OneAnswer.{one_answer_lem}
use Rattle.vidi_laws.proofs.SameDevice.{DeviceLaws}
use Rattle.vidi_laws.proofs.laws.one_answer.Goals as goal

pub returns : goal.returns
returns c =
    let devices : DeviceLaws = record {
      texts = record {
        reading = c.one_reading-2.ensures;
        stuck = c.read_or_stuck.ensures;
        file = c.one_lined_file.ensures;
        plain = c.lined_files_are_files.ensures;
        depth = c.one_depth.ensures;
        word = c.one_stuck_line.ensures;
        item = c.one_item_line.ensures;
        loops = c.loops_alike.ensures;
      };
      built = c.built_alike.ensures;
      maps = c.maps_alike.ensures;
      settles = c.one_settled_map.ensures;
      mapped = c.bound_is_map_of.ensures;
      map_text = c.one_map_text.ensures;
      binding = c.one_binding.ensures;
    } in
    one_answer_lem (record {
      reading = c.one_reading.ensures;
      place = c.one_place.ensures;
      salvage = c.one_salvage.ensures;
      old_reading = c.one_old_reading.ensures;
      old_place = c.one_old_place.ensures;
      old_salvage = c.one_old_salvage.ensures;
      move = c.one_move.ensures;
      benches = record {
        devices = devices;
        script = c.one_script.ensures;
        plan = c.one_plan.ensures;
      };
      replays = record {
        devices = devices;
        reading = c.one_reading.ensures;
        place = c.one_place.ensures;
        driven = c.driven_alike.ensures;
        outcome = c.one_outcome.ensures;
      };
    })
