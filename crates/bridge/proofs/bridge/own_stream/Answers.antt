use Rattle.std.proofs.Common.{Some, sym, ap, ◌∙◌}
use Rattle.std.specs.Prelude.{option_map}
use Rattle.parts.specs.SelectedMessage.{SelectedMessage}
use Rattle.plain_out.specs.Streams.{reading_stream}
use Rattle.bridge.proofs.Steps.{own_stream_is}
use Rattle.bridge.proofs.bridge.own_stream.Goals as goal

pub returns-in-Some : goal.returns-in-Some
returns-in-Some c = λ settings s h e taken.
    ap Some c.of_reading.ensures
    ∙ ap (option_map (λ (k : SelectedMessage). reading_stream k.reading)) (sym c.in-Some.is)
    ∙ own_stream_is c.args.gateway.now c.args.outbox.now c.of.result c.of.ensures.selected settings s h e taken

pub returns-in-None : goal.returns-in-None
returns-in-None c = λ settings s h e taken.
    ap (option_map (λ (k : SelectedMessage). reading_stream k.reading)) (sym c.in-None.is)
    ∙ own_stream_is c.args.gateway.now c.args.outbox.now c.of.result c.of.ensures.selected settings s h e taken
