-- A store for tests.
use Rattle.hall_store.specs.declared.probe.Probe.{Probe}

-- the store within it
abbrev pub inner : {S : Type 0} → Probe S → S
inner probe = probe.store
