-- That a kind which is neither metal nor glass is refused, what the memory holds after an answer, and demand 3 over calls on a path in memory, of which a bounce on a book's surface is one.
pub mod UnknownKind
pub mod AfterAnswer
pub mod BookBounce
pub mod Demand3
