-- What a desk's memory holds.
use Rattle.engine.specs.States.{TableRows}
use Rattle.desk.specs.declared.memory.Memory.{Memory}

-- the rows of its five tables
abbrev pub rows_in : Memory → TableRows
rows_in m = record { buys = m.buys; sells = m.sells; bids = m.bids; offers = m.offers; tickets = m.tickets }
