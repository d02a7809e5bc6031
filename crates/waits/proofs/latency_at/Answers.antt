-- Only a receive has a latency, and its place in the table is below 4,096.
use mathlib.Core.Path.{◌∙◌}
use native.Mathlib.Omega.{arith}
use Rattle.waits.proofs.Stored.{place_low, latency_neither, latency_send, latency_receive}
use Rattle.waits.proofs.latency_at.Goals as goal

pub overflow_mul-m : goal.overflow_mul-m
overflow_mul-m c = omega (arith, place_low _ _ c.role_at.ensures c.in-Receive.is c.processor_at-receiver.ensures)

pub overflow_add-m : goal.overflow_add-m
overflow_add-m c = omega (arith, place_low _ _ c.role_at.ensures c.in-Receive.is c.processor_at-receiver.ensures)

pub returns-in-Neither : goal.returns-in-Neither
returns-in-Neither c = latency_neither _ _ _ c.role_at.ensures c.in-Neither.is

pub returns-in-Send : goal.returns-in-Send
returns-in-Send c = latency_send _ _ _ c.role_at.ensures c.in-Send.is

pub returns-in-Receive : goal.returns-in-Receive
returns-in-Receive c = c.number_at.ensures ∙ latency_receive _ _ _ c.role_at.ensures c.in-Receive.is c.processor_at-receiver.ensures
