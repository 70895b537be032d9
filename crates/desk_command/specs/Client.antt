-- What is read of a hall for a client's frame.
use Rattle.std.specs.Prelude.{◌≡◌}
use Rattle.desk_command.specs.Prelude.{Client, Hall, Port, frame_view, Enlist, FrameView}
use Rattle.boot_desk.specs.FrameEvent.{frame_decision}

-- The view is enough for the client's frame: it leads to the decision to which all leads that the hall has of the client, and
-- it has the last numbers if the client is enlisted.
pub record IsEnough (h : Hall) (client : Client) (v : FrameView) : Type 0 where
  pub decides : (port : Port) → frame_decision v port client ≡ frame_decision (frame_view h client) port client
  pub numbers : (port : Port) → frame_decision v port client ≡ Enlist → v.numbers ≡ h.last
