pub mod Firsts
pub mod ImageOrders
